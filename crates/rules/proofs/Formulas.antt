-- Formulas that have values: what the operators of the rules make of operands with values, the same in every reading.
use mathlib.Core.Path.{◌≡◌, refl, ap, ap₂, ◌∙◌}
use Prim.Native.Nat.{ℕ}
use mathlib.Core.Bool.{Bool, true, false, not, ◌||◌}
use mathlib.Core.Option.{Option, none, some, map, bind}
use lib.Dec.{T}
use lib.IntN.{ℤ, pos, neg_ℤ}
use Rattle.numbers.specs.Whole.{eq_z}
use Rattle.language.specs.Syntax.{Arithmetic, plus, Division, Connective, disj, Comparison, equal, IExp, constant, arith, divide, negate, bool_to_int, BExp, lookup, truth, lookup_b, connect, negation, compare, Declarations}
use Rattle.language.specs.Readings.{Reading, both, arithmetic, part, division, comparison, logic, opposite, atomic}
use Rattle.language.specs.Meaning.{Assignment, Setting, array_at, is_one, number, element_at, value_i, value_b}
use Rattle.language.proofs.Agreement.{connective-of, atomic-some}
use Rattle.rules.specs.TotalRows.{defined, is_true, is_false}
use Rattle.rules.proofs.Claims.{MeansI, MeansB}
use Rattle.rules.proofs.Companions.{Vᵗ, Pᵗ, Dᵗ, Nᵗ}
use Rattle.rules.proofs.Operands.{corrected, division-some}

-- "Vb + boolToInt(Vb = 0)"
abbrev pub corrected_v : IExp ⊥ → IExp ⊥
corrected_v b = arith plus b (bool_to_int (compare equal b (constant (pos 0))))

-- in all that follows formulas are worked out under ρ'
module _ (ρ' : Reading) (Γ : Declarations) (α : Assignment) (σ : Setting) where
  -- the integer formula e has the value z
  pub record HasI (e : IExp ⊥) (z : ℤ) : Type 0 where
    pub is : value_i ρ' Γ α e σ ≡ some z

  -- the Boolean formula e has the value b
  pub record HasB (e : BExp ⊥) (b : Bool) : Type 0 where
    pub is : value_b ρ' Γ α e σ ≡ some b

module _ {ρ' : Reading} {Γ : Declarations} {α : Assignment} {σ : Setting} where
  -- A value by another name.
  pub has-≡ : {e : BExp ⊥} {x y : Bool} → HasB ρ' Γ α σ e x → x ≡ y → HasB ρ' Γ α σ e y
  has-≡ p q = record { is = p.is ∙ ap some q }

  -- Constants are their own value.
  pub constant-has : (z : ℤ) → HasI ρ' Γ α σ (constant z) z
  unfolding value_i
  constant-has z = record { is = refl }

  -- And so are truth values.
  pub truth-has : (b : Bool) → HasB ρ' Γ α σ (truth b) b
  unfolding value_b
  truth-has b = record { is = refl }

  -- An operator's value is its operation on the operands' values.
  pub arith-has : (op : Arithmetic) {a b : IExp ⊥} {x y : ℤ} → HasI ρ' Γ α σ a x → HasI ρ' Γ α σ b y → HasI ρ' Γ α σ (arith op a b) (arithmetic op x y)
  unfolding value_i both
  arith-has op p q = record { is = ap₂ (both (λ x y. some (arithmetic op x y))) p.is q.is }

  -- The same for a negated number.
  pub negate-has : {a : IExp ⊥} {x : ℤ} → HasI ρ' Γ α σ a x → HasI ρ' Γ α σ (negate a) (neg_ℤ x)
  unfolding value_i
  negate-has p = record { is = ap (map neg_ℤ) p.is }

  -- The same for a quotient or remainder whose divisor is not 0.
  pub divide-has : (op : Division) {a b : IExp ⊥} {x y : ℤ} → HasI ρ' Γ α σ a x → HasI ρ' Γ α σ b y → T (not (eq_z y (pos 0))) → HasI ρ' Γ α σ (divide op a b) (part op x y)
  unfolding value_i both
  divide-has op {x = x} {y = y} p q t = record { is = ap₂ (both (division op)) p.is q.is ∙ division-some op x y t }

  -- A lookup with an index inside has the element for its value.
  pub lookup-has : (A : ℕ) {i : IExp ⊥} {x z : ℤ} → HasI ρ' Γ α σ i x → element_at α (array_at Γ A) x ≡ some z → HasI ρ' Γ α σ (lookup A i) z
  unfolding value_i bind
  lookup-has A p e = record { is = ap (λ v. bind v (element_at α (array_at Γ A))) p.is ∙ e }

  -- A truth value as a number.
  pub bool_to_int-has : {a : BExp ⊥} {x : Bool} → HasB ρ' Γ α σ a x → HasI ρ' Γ α σ (bool_to_int a) (number x)
  unfolding value_i
  bool_to_int-has p = record { is = ap (map number) p.is }

  -- A comparison has its value in each reading.
  pub compare-has : (c : Comparison) {a b : IExp ⊥} {x y : ℤ} → HasI ρ' Γ α σ a x → HasI ρ' Γ α σ b y → HasB ρ' Γ α σ (compare c a b) (comparison c x y)
  unfolding value_b both
  compare-has c {x = x} {y = y} p q =
      record { is = ap₂ (λ v w. atomic ρ' (both (λ x y. some (comparison c x y)) v w)) p.is q.is ∙ atomic-some ρ' (comparison c x y) }

  -- The corrected divisor.
  pub corrected-has : {b : IExp ⊥} {y : ℤ} → HasI ρ' Γ α σ b y → HasI ρ' Γ α σ (corrected_v b) (corrected y)
  unfolding arithmetic comparison corrected
  corrected-has q = arith-has plus q (bool_to_int-has (compare-has equal q (constant-has (pos 0))))

  -- A Boolean lookup with an index inside.
  pub lookup_b-has : (A : ℕ) {i : IExp ⊥} {x z : ℤ} → HasI ρ' Γ α σ i x → element_at α (array_at Γ A) x ≡ some z → HasB ρ' Γ α σ (lookup_b A i) (is_one z)
  unfolding value_b bind
  lookup_b-has A {z = z} p e =
      record { is = ap (λ v. atomic ρ' (map is_one v)) (ap (λ v. bind v (element_at α (array_at Γ A))) p.is ∙ e) ∙ atomic-some ρ' (is_one z) }

  -- A connective is ordinary logic in each reading.
  pub connect-has : (c : Connective) {a b : BExp ⊥} {x y : Bool} → HasB ρ' Γ α σ a x → HasB ρ' Γ α σ b y → HasB ρ' Γ α σ (connect c a b) (logic c x y)
  unfolding value_b
  connect-has c p q = record { is = connective-of ρ' c p.is q.is }

  -- And so is a negation.
  pub negation-has : {a : BExp ⊥} {x : Bool} → HasB ρ' Γ α σ a x → HasB ρ' Γ α σ (negation a) (not x)
  unfolding value_b opposite
  negation-has p = record { is = ap opposite p.is }

-- A truth value is defined if it is true or false.
is_true-or-is_false : (x : Option Bool) → is_true x || is_false x ≡ defined x
unfolding is_true is_false defined
is_true-or-is_false none = refl
is_true-or-is_false (some true) = refl
is_true-or-is_false (some false) = refl

-- A truth value that is defined is false where it is not true.
pub not-is_true : (v : Option Bool) → T (defined v) → not (is_true v) ≡ is_false v
unfolding defined is_true is_false
not-is_true none t = absurd t
not-is_true (some true) t = refl
not-is_true (some false) t = refl

-- What the claims about a node say of its companions.
module _ {ρ ρ' : Reading} {Γ : Declarations} {α : Assignment} {σ : Setting} where
  -- V has a value.
  pub V-has : {e : IExp ⊥} (m : MeansI ρ ρ' Γ α σ e) → HasI ρ' Γ α σ (Vᵗ ρ Γ e) m.value
  V-has m = record { is = m.V_is }

  -- D says where the node is defined.
  pub D-has : {e : IExp ⊥} → MeansI ρ ρ' Γ α σ e → HasB ρ' Γ α σ (Dᵗ ρ Γ e) (defined (value_i ρ Γ α e σ))
  D-has m = record { is = m.D_is }

  -- P says where the node is true.
  pub P-has : {e : BExp ⊥} → MeansB ρ ρ' Γ α σ e → HasB ρ' Γ α σ (Pᵗ ρ Γ e) (is_true (value_b ρ Γ α e σ))
  P-has m = record { is = m.P_is }

  -- N says where it is false.
  pub N-has : {e : BExp ⊥} → MeansB ρ ρ' Γ α σ e → HasB ρ' Γ α σ (Nᵗ ρ Γ e) (is_false (value_b ρ Γ α e σ))
  N-has m = record { is = m.N_is }

  -- P ∨ N: the node is defined.
  pub P-or-N-has : {e : BExp ⊥} → MeansB ρ ρ' Γ α σ e → HasB ρ' Γ α σ (connect disj (Pᵗ ρ Γ e) (Nᵗ ρ Γ e)) (defined (value_b ρ Γ α e σ))
  unfolding logic
  P-or-N-has {e} m = has-≡ (connect-has disj (P-has m) (N-has m)) (is_true-or-is_false (value_b ρ Γ α e σ))
