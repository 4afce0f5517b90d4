-- The rules of the leaves and of the integer operations: V has a value of the node's interval, D says where the node is defined, and V is its
-- value there.
use mathlib.Core.Path.{◌≡◌, refl, sym, ap, ◌∙◌}
use Prim.Native.Nat.{ℕ}
use mathlib.Core.Bool.{Bool, true, false}
use mathlib.Core.Option.{Option, none, some}
use lib.IntN.{ℤ, pos, neg_ℤ}
use lib.Signed.{le_z_yes}
use Rattle.numbers.proofs.Order.{neg-anti-≤}
use Rattle.language.specs.Syntax.{Arithmetic, Division, conj, unequal, IExp, constant, variable, slot, arith, divide, negate, bool_to_int, BExp, truth, variable_b, integer, Declarations}
use Rattle.language.specs.Readings.{Reading, arithmetic, part, comparison, logic, opposite}
use Rattle.language.specs.Meaning.{Assignment, Setting, is_one, number, value_of, value_i, value_b}
use Rattle.rules.specs.Bounds.{◌to◌, interval}
use Rattle.rules.specs.Formulas.{divide_v, divide_d}
use Rattle.rules.specs.Soundness.{Within, Fits, IsVariable, IsSlot}
use Rattle.rules.specs.TotalRows.{defined, is_true}
use Rattle.rules.proofs.Claims.{MeansI, MeansB}
use Rattle.rules.proofs.Companions.{Vᵗ, Pᵗ, Dᵗ, Nᵗ}
use Rattle.rules.proofs.Intervals.{within-only, arith-within}
use Rattle.rules.proofs.Operands.{Agrees, defined-map, agrees-map, defined-both, agrees-both, corrected, corrected-≢0, divide-within, defined-divide, agrees-divide}
use Rattle.rules.proofs.Formulas.{constant-has, arith-has, negate-has, divide-has, bool_to_int-has, compare-has, corrected-has, connect-has, not-is_true, V-has, D-has, P-has, P-or-N-has}

-- "boolToInt 0..1"
number-within : (b : Bool) → Within (pos 0 to pos 1) (number b)
unfolding number
number-within true = record { above = le_z_yes tt; below = le_z_yes tt }
number-within false = record { above = le_z_yes tt; below = le_z_yes tt }

-- A truth value that is defined is whether it is true.
agrees-is_true : (v : Option Bool) → Agrees (is_true v) v
unfolding is_true
agrees-is_true none z e = cc
agrees-is_true (some b) z e = cc

module _ {ρ ρ' : Reading} {Γ : Declarations} {α : Assignment} {σ : Setting} where
  -- A leaf has a value of its interval.
  leaf-means : (e : IExp ⊥) {x : ℤ} → value_i ρ Γ α e σ ≡ some x → value_i ρ' Γ α (Vᵗ ρ Γ e) σ ≡ some x → value_b ρ' Γ α (Dᵗ ρ Γ e) σ ≡ some true →
      Within (interval Γ e) x → MeansI ρ ρ' Γ α σ e
  unfolding defined
  leaf-means e {x} p q d w = record { value = x; V_is = q; V_within = w; D_is = rw p d; V_agrees = λ z e. cc }

  -- ---- leaves: "Constant, variable, slot: V itself, D true; Boolean: P itself, N ¬P."

  -- A constant is its own interval.
  pub constant-means : (z : ℤ) → MeansI ρ ρ' Γ α σ (constant z)
  unfolding value_i Vᵗ Dᵗ interval
  constant-means z = leaf-means (constant z) refl refl refl (within-only z)

  -- A variable lies in its domain.
  pub variable-means : {v : ℕ} → IsVariable Γ integer v → Fits Γ α σ → MeansI ρ ρ' Γ α σ (variable v)
  unfolding value_i Vᵗ Dᵗ interval
  variable-means {v} d f = leaf-means (variable v) refl refl refl (f.variables v d.declared)

  -- A slot lies in its interval.
  pub slot-means : (s : ℕ) → IsSlot Γ s → Fits Γ α σ → MeansI ρ ρ' Γ α σ (slot s)
  unfolding value_i Vᵗ Dᵗ interval
  slot-means s d f = leaf-means (slot s) refl refl refl (f.slots s d)

  -- A constant truth value.
  pub truth-means : (b : Bool) → MeansB ρ ρ' Γ α σ (truth b)
  unfolding value_b Pᵗ Nᵗ opposite is_true defined
  truth-means b = record { P_is = refl; N_is = ap some (not-is_true (some b) tt); relational_defined = λ r. tt }

  -- A Boolean variable.
  pub variable_b-means : (v : ℕ) → MeansB ρ ρ' Γ α σ (variable_b v)
  unfolding value_b Pᵗ Nᵗ opposite is_true defined
  variable_b-means v = record { P_is = refl; N_is = ap some (not-is_true (some (is_one (value_of α v))) tt); relational_defined = λ r. tt }

  -- ---- operations

  -- "Arithmetic: V = Va op Vb, D = Da ∧ Db."
  pub arith-means : (op : Arithmetic) {a b : IExp ⊥} → MeansI ρ ρ' Γ α σ a → MeansI ρ ρ' Γ α σ b → MeansI ρ ρ' Γ α σ (arith op a b)
  unfolding value_i Vᵗ Dᵗ interval logic
  arith-means op {a} {b} m n = record {
    value = arithmetic op m.value n.value;
    V_is = (arith-has op (V-has m) (V-has n)).is;
    V_within = arith-within op m.V_within n.V_within;
    D_is = (connect-has conj (D-has m) (D-has n)).is ∙ ap some (defined-both (arithmetic op) (value_i ρ Γ α a σ) (value_i ρ Γ α b σ));
    V_agrees = agrees-both (arithmetic op) (value_i ρ Γ α a σ) (value_i ρ Γ α b σ) m.V_agrees n.V_agrees;
  }

  -- "Negate: D = Da."
  pub negate-means : {a : IExp ⊥} → MeansI ρ ρ' Γ α σ a → MeansI ρ ρ' Γ α σ (negate a)
  unfolding value_i Vᵗ Dᵗ interval
  negate-means {a} m = record {
    value = neg_ℤ m.value;
    V_is = (negate-has (V-has m)).is;
    V_within = record { above = neg-anti-≤ m.V_within.below; below = neg-anti-≤ m.V_within.above };
    D_is = m.D_is ∙ ap some (sym (defined-map neg_ℤ (value_i ρ Γ α a σ)));
    V_agrees = agrees-map neg_ℤ (value_i ρ Γ α a σ) m.V_agrees;
  }

  -- "div, mod: V = Va op (Vb + boolToInt(Vb = 0)), D = (Da ∧ Db) ∧ (Vb ≠ 0)."
  pub divide-means : (op : Division) {a b : IExp ⊥} → MeansI ρ ρ' Γ α σ a → MeansI ρ ρ' Γ α σ b → MeansI ρ ρ' Γ α σ (divide op a b)
  unfolding value_i Vᵗ Dᵗ divide_v divide_d interval logic comparison
  divide-means op {a} {b} m n = record {
    value = part op m.value (corrected n.value);
    V_is = (divide-has op (V-has m) (corrected-has (V-has n)) (corrected-≢0 n.value)).is;
    V_within = divide-within op m.V_within n.V_within;
    D_is =
        (connect-has conj (connect-has conj (D-has m) (D-has n)) (compare-has unequal (V-has n) (constant-has (pos 0)))).is
        ∙ ap some (defined-divide op (value_i ρ Γ α a σ) (value_i ρ Γ α b σ) n.V_agrees);
    V_agrees = agrees-divide op (value_i ρ Γ α a σ) (value_i ρ Γ α b σ) m.V_agrees n.V_agrees;
  }

  -- "boolToInt: V = boolToInt(Pa), D = Pa ∨ Na."
  pub bool_to_int-means : {a : BExp ⊥} → MeansB ρ ρ' Γ α σ a → MeansI ρ ρ' Γ α σ (bool_to_int a)
  unfolding value_i Vᵗ Dᵗ interval
  bool_to_int-means {a} m = record {
    value = number (is_true (value_b ρ Γ α a σ));
    V_is = (bool_to_int-has (P-has m)).is;
    V_within = number-within (is_true (value_b ρ Γ α a σ));
    D_is = (P-or-N-has m).is ∙ ap some (sym (defined-map number (value_b ρ Γ α a σ)));
    V_agrees = agrees-map number (value_b ρ Γ α a σ) (agrees-is_true (value_b ρ Γ α a σ));
  }
