-- The rules of the quantifiers: P and N of a quantifier say what its value is. One side of a quantifier (true for exists, false for
-- forall) is settled by one value of the body, the other is kept by all of them.
use mathlib.Core.Path.{◌≡◌, refl, ap, ◌∙◌}
use Prim.Native.Nat.{ℕ, ◌<◌}
use mathlib.Core.Bool.{Bool, true, false, not, ◌&&◌, ◌||◌, beq, and-false}
use mathlib.Core.Option.{Option, none, some}
use lib.Dec.{T}
use lib.IntN.{ℤ, pos, ◌+ℤ◌}
use Rattle.language.specs.Syntax.{conj, disj, Quantifier, exists, forall, BExp, connect, quantify, Declarations}
use Rattle.language.specs.Readings.{Reading, strict, kleene, relational, both, logic, strictly, kleene_and, kleene_or, opposite, kleenely, connective, over, joins, of_none, quantified}
use Rattle.language.specs.Meaning.{Assignment, Setting, put, slot_at, count, value_b}
use Rattle.language.proofs.Agreement.{connective-of}
use Rattle.language.proofs.Finite.{◌⊗◌, bools, quantifiers, readings, truths, beq→≡, implied}
use Rattle.language.proofs.Ranges.{over-relates}
use Rattle.rules.specs.Formulas.{behind, quantify_p, quantify_n}
use Rattle.rules.specs.TotalRows.{defined, is_true, is_false}
use Rattle.rules.proofs.Claims.{MeansB}
use Rattle.rules.proofs.Companions.{Pᵗ, Nᵗ}
use Rattle.rules.proofs.Formulas.{HasB, has-≡, connect-has, P-has, N-has, P-or-N-has}
use Rattle.rules.proofs.Connectives.{connective-defined}

-- the side that one value settles
settles : Quantifier → Option Bool → Bool
settles exists x = is_true x
settles forall x = is_false x

-- the side that all values keep
keeps : Quantifier → Option Bool → Bool
keeps exists x = is_false x
keeps forall x = is_true x

-- what strict asks first: that no value is undefined
front : Reading → Option Bool → Bool
front strict x = defined x
front kleene x = true
front relational x = true

-- ---- one more value of the body

-- Is a side that all values keep kept by one value more?
kept_test : Reading → Quantifier → Option Bool → Option Bool → Bool
kept_test ρ q x y = beq (keeps q x && keeps q y) (keeps q (connective ρ (joins q) x y))

-- It is, in each case.
keeps-connective : (ρ : Reading) (q : Quantifier) (x y : Option Bool) → keeps q x && keeps q y ≡ keeps q (connective ρ (joins q) x y)
unfolding kept_test keeps is_true is_false connective strictly kleenely kleene_and kleene_or both logic opposite joins
keeps-connective ρ q x y = beq→≡ _ _ ((readings ⊗ quantifiers ⊗ truths ⊗ truths).at (λ k. kept_test k.0 k.1.0 k.1.1.0 k.1.1.1) tt (ρ, (q, (x, y))))

-- Is a side that one value settles settled by one value more, once strict has asked first?
settled_test : Reading → Quantifier → Option Bool → Bool → Option Bool → Bool
settled_test ρ q x e y = not (beq (front ρ x && e) (settles q x)) ||
    beq (front ρ (connective ρ (joins q) x y) && (e || settles q y)) (settles q (connective ρ (joins q) x y))

-- It is, in each case.
settles-connective : (ρ : Reading) (q : Quantifier) (x : Option Bool) (e : Bool) (y : Option Bool) → front ρ x && e ≡ settles q x →
    front ρ (connective ρ (joins q) x y) && (e || settles q y) ≡ settles q (connective ρ (joins q) x y)
unfolding settled_test settles front defined is_true is_false connective strictly kleenely kleene_and kleene_or both logic opposite joins
settles-connective ρ q x e y h =
    beq→≡ _ _ (implied (front ρ x && e) (settles q x) _
    ((readings ⊗ quantifiers ⊗ truths ⊗ bools ⊗ truths).at (λ k. settled_test k.0 k.1.0 k.1.1.0 k.1.1.1.0 k.1.1.1.1) tt (ρ, (q, (x, (e, y))))) h)

-- Under strict one value more is defined where both parts are.
defined-strictly : (q : Quantifier) (x y : Option Bool) → defined x && defined y ≡ defined (connective strict (joins q) x y)
unfolding defined connective strictly both
defined-strictly q none y = refl
defined-strictly q (some a) none = refl
defined-strictly q (some a) (some b) = refl

-- Over an empty range the side that all values keep is kept.
keeps-none : (q : Quantifier) → true ≡ keeps q (some (of_none q))
unfolding keeps is_true is_false of_none
keeps-none exists = refl
keeps-none forall = refl

-- And the other side is not settled.
settles-none : (ρ : Reading) (q : Quantifier) → front ρ (some (of_none q)) && false ≡ settles q (some (of_none q))
unfolding settles is_true is_false of_none
settles-none ρ exists = and-false (front ρ (some false))
settles-none ρ forall = and-false (front ρ (some true))

-- ---- the whole range

module _ (ρ' : Reading) (Γ : Declarations) (α : Assignment) (σ : Setting) (s : ℕ) where
  -- S says `side` of g, for each value of the slot
  abbrev Says : {A : Type 0} → BExp ⊥ → (A → Bool) → (ℤ → A) → Type 0
  Says S side g = (k : ℕ) → k < count (slot_at Γ s) → HasB ρ' Γ α (put σ s ((slot_at Γ s).low +ℤ pos k)) S (side (g ((slot_at Γ s).low +ℤ pos k)))

  -- A side that f keeps is kept over the range.
  pub forall-has : {A : Type 0} (f : A → A → A) {a : A} (g : ℤ → A) (side : A → Bool) → true ≡ side a → ((x y : A) → side x && side y ≡ side (f x y)) →
      (S : BExp ⊥) → Says S side g → HasB ρ' Γ α σ (quantify forall s S) (side (over f a (slot_at Γ s).low (count (slot_at Γ s)) g))
  unfolding value_b quantified joins of_none logic
  forall-has f g side start step S h = record {
    is = over-relates (connective ρ' conj) f (slot_at Γ s).low (λ d. value_b ρ' Γ α S (put σ s d)) g (λ k v x. v ≡ some (side x)) (ap some start) (count (slot_at Γ s))
        (λ k l v x e. connective-of ρ' conj e (h k l).is ∙ ap some (step x (g ((slot_at Γ s).low +ℤ pos k))));
  }

  module _ (ρ : Reading) (q : Quantifier) (g : ℤ → Option Bool) where
    -- the quantifier's value
    abbrev value : Option Bool
    value = quantified ρ q (slot_at Γ s).low (count (slot_at Γ s)) g

    -- What one value settles is settled, once strict has asked first.
    exists-has : (S : BExp ⊥) → Says S (settles q) g → (b : Bool) × HasB ρ' Γ α σ (quantify exists s S) b × (front ρ value && b ≡ settles q value)
    unfolding value_b quantified joins of_none logic
    exists-has S h =
        let R : ℕ → Option Bool → Option Bool → Type 0 = λ k v x. (b : Bool) × (v ≡ some b) × (front ρ x && b ≡ settles q x) in
        let at : ℕ → Option Bool = λ k. g ((slot_at Γ s).low +ℤ pos k) in
        let r = over-relates (connective ρ' disj) (connective ρ (joins q)) (slot_at Γ s).low (λ d. value_b ρ' Γ α S (put σ s d)) g R
        (false, refl, settles-none ρ q) (count (slot_at Γ s))
        (λ k l v x e. (e.0 || settles q (at k), connective-of ρ' disj e.1 (h k l).is, settles-connective ρ q x e.0 (at k) e.2)) in
        (r.0, record { is = r.1 }, r.2)

    -- What all values keep is kept.
    keeps-has : (S : BExp ⊥) → Says S (keeps q) g → HasB ρ' Γ α σ (quantify forall s S) (keeps q value)
    unfolding quantified
    keeps-has S h = forall-has (connective ρ (joins q)) g (keeps q) (keeps-none q) (keeps-connective ρ q) S h

  -- What one value settles is settled, "behind ∀(Pa ∨ Na) under strict".
  settles-has : (ρ : Reading) (q : Quantifier) (g : ℤ → Option Bool) (S B : BExp ⊥) → Says S (settles q) g → Says B defined g →
      HasB ρ' Γ α σ (behind ρ (quantify forall s B) (quantify exists s S)) (settles q (value ρ q g))
  unfolding behind front quantified logic defined
  settles-has strict q g S B h d =
      has-≡ (connect-has conj (forall-has (connective strict (joins q)) g defined refl (defined-strictly q) B d) (exists-has strict q g S h).1) (exists-has strict q g S h).2
  settles-has kleene q g S B h d = has-≡ (exists-has kleene q g S h).1 (exists-has kleene q g S h).2
  settles-has relational q g S B h d = has-≡ (exists-has relational q g S h).1 (exists-has relational q g S h).2

-- A quantifier over defined truth values is defined.
quantified-defined : (ρ : Reading) (q : Quantifier) (low : ℤ) (n : ℕ) (g : ℤ → Option Bool) → ((k : ℕ) → k < n → T (defined (g (low +ℤ pos k)))) →
    T (defined (quantified ρ q low n g))
unfolding quantified defined
quantified-defined ρ q low n g h =
    over-relates (connective ρ (joins q)) (connective ρ (joins q)) low g g (λ k v w. T (defined v)) {b = none} tt n
    (λ k l v w t. connective-defined ρ (joins q) v (g (low +ℤ pos k)) t (h k l))

-- P and N of a quantifier.
pub quantify-means : {ρ ρ' : Reading} {Γ : Declarations} {α : Assignment} {σ : Setting} (q : Quantifier) (s : ℕ) {a : BExp ⊥} →
    ((k : ℕ) → k < count (slot_at Γ s) → MeansB ρ ρ' Γ α (put σ s ((slot_at Γ s).low +ℤ pos k)) a) → MeansB ρ ρ' Γ α σ (quantify q s a)
unfolding value_b Pᵗ Nᵗ quantify_p quantify_n settles keeps
quantify-means {ρ} {ρ'} {Γ} {α} {σ} exists s {a} m =
    let g : ℤ → Option Bool = λ d. value_b ρ Γ α a (put σ s d) in
    record {
      P_is = (settles-has ρ' Γ α σ s ρ exists g (Pᵗ ρ Γ a) (connect disj (Pᵗ ρ Γ a) (Nᵗ ρ Γ a)) (λ k l. P-has (m k l)) (λ k l. P-or-N-has (m k l))).is;
      N_is = (keeps-has ρ' Γ α σ s ρ exists g (Nᵗ ρ Γ a) (λ k l. N-has (m k l))).is;
      relational_defined = λ e. quantified-defined ρ exists (slot_at Γ s).low (count (slot_at Γ s)) g (λ k l. (m k l).relational_defined e);
    }
quantify-means {ρ} {ρ'} {Γ} {α} {σ} forall s {a} m =
    let g : ℤ → Option Bool = λ d. value_b ρ Γ α a (put σ s d) in
    record {
      P_is = (keeps-has ρ' Γ α σ s ρ forall g (Pᵗ ρ Γ a) (λ k l. P-has (m k l))).is;
      N_is = (settles-has ρ' Γ α σ s ρ forall g (Nᵗ ρ Γ a) (connect disj (Pᵗ ρ Γ a) (Nᵗ ρ Γ a)) (λ k l. N-has (m k l)) (λ k l. P-or-N-has (m k l))).is;
      relational_defined = λ e. quantified-defined ρ forall (slot_at Γ s).low (count (slot_at Γ s)) g (λ k l. (m k l).relational_defined e);
    }
