-- The rules of the connectives: P and N of a connective say what its value is. Over a formula's operands only their values count, so
-- each rule is a table of truth values, computed whole.
use mathlib.Core.Path.{◌≡◌, refl, ap, ◌∙◌}
use mathlib.Core.Bool.{Bool, true, false, ◌&&◌}
use mathlib.Core.Option.{Option, none, some}
use lib.Dec.{T}
use Rattle.numbers.proofs.Tests.{&&-fst, &&-snd}
use Rattle.language.specs.Syntax.{Connective, conj, disj, implies, iff, BExp, truth, connect, negation, Declarations}
use Rattle.language.specs.Readings.{Reading, strict, kleene, relational, both, logic, strictly, kleene_and, kleene_or, opposite, kleenely, connective}
use Rattle.language.specs.Meaning.{Assignment, Setting, value_b}
use Rattle.language.proofs.Agreement.{connective-some}
use Rattle.language.proofs.Finite.{◌⊗◌, readings, connectives, truths, is_some, is_some→≡}
use Rattle.rules.specs.Formulas.{behind, settled, connect_p, connect_n}
use Rattle.rules.specs.TotalRows.{defined, is_true, is_false}
use Rattle.rules.proofs.Claims.{MeansB}
use Rattle.rules.proofs.Companions.{Pᵗ, Nᵗ}
use Rattle.rules.proofs.Formulas.{HasB, P-has, N-has}

module _ (ρ' : Reading) (Γ : Declarations) (α : Assignment) (σ : Setting) where
  module _ {Pa Na Pb Nb : BExp ⊥} {pa na pb nb : Bool}
      (p : HasB ρ' Γ α σ Pa pa) (n : HasB ρ' Γ α σ Na na) (p' : HasB ρ' Γ α σ Pb pb) (n' : HasB ρ' Γ α σ Nb nb) where
    -- P has the value that it has over constants of the operands' values.
    connect_p-cong : (ρ : Reading) (c : Connective) →
        value_b ρ' Γ α (connect_p ρ c Pa Na Pb Nb) σ ≡ value_b ρ' Γ α (connect_p ρ c (truth pa) (truth na) (truth pb) (truth nb)) σ
    unfolding value_b connect_p behind settled
    connect_p-cong ρ conj = cc
    connect_p-cong strict disj = cc
    connect_p-cong kleene disj = cc
    connect_p-cong relational disj = cc
    connect_p-cong strict implies = cc
    connect_p-cong kleene implies = cc
    connect_p-cong relational implies = cc
    connect_p-cong ρ iff = cc

    -- The same for N.
    connect_n-cong : (ρ : Reading) (c : Connective) →
        value_b ρ' Γ α (connect_n ρ c Pa Na Pb Nb) σ ≡ value_b ρ' Γ α (connect_n ρ c (truth pa) (truth na) (truth pb) (truth nb)) σ
    unfolding value_b connect_n behind settled
    connect_n-cong strict conj = cc
    connect_n-cong kleene conj = cc
    connect_n-cong relational conj = cc
    connect_n-cong ρ disj = cc
    connect_n-cong ρ implies = cc
    connect_n-cong ρ iff = cc

  -- P over constants: is it as the connective's value asks?
  test_p : Reading → Connective → Option Bool → Option Bool → Bool
  test_p ρ c x y = is_some (value_b ρ' Γ α (connect_p ρ c (truth (is_true x)) (truth (is_false x)) (truth (is_true y)) (truth (is_false y))) σ) (is_true (connective ρ c x y))

  -- The same for N.
  test_n : Reading → Connective → Option Bool → Option Bool → Bool
  test_n ρ c x y = is_some (value_b ρ' Γ α (connect_n ρ c (truth (is_true x)) (truth (is_false x)) (truth (is_true y)) (truth (is_false y))) σ) (is_false (connective ρ c x y))

-- P and N are, in each case.
connect-table : (Γ : Declarations) (α : Assignment) (σ : Setting) (ρ' ρ : Reading) (c : Connective) (x y : Option Bool) →
    T (test_p ρ' Γ α σ ρ c x y && test_n ρ' Γ α σ ρ c x y)
unfolding test_p test_n value_b connect_p connect_n behind settled is_true is_false connective strictly kleenely kleene_and kleene_or both logic opposite
connect-table Γ α σ ρ' ρ c x y =
    (readings ⊗ readings ⊗ connectives ⊗ truths ⊗ truths).at
    (λ k. test_p k.0 Γ α σ k.1.0 k.1.1.0 k.1.1.1.0 k.1.1.1.1 && test_n k.0 Γ α σ k.1.0 k.1.1.0 k.1.1.1.0 k.1.1.1.1)
    tt (ρ', (ρ, (c, (x, y))))

-- A connective of defined operands is defined.
pub connective-defined : (ρ : Reading) (c : Connective) (x y : Option Bool) → T (defined x) → T (defined y) → T (defined (connective ρ c x y))
unfolding defined
connective-defined ρ c none y t u = absurd t
connective-defined ρ c (some a) none t u = absurd u
connective-defined ρ c (some a) (some b) t u = rw (connective-some ρ c a b) tt

-- P and N of a connective.
pub connect-means : {ρ ρ' : Reading} {Γ : Declarations} {α : Assignment} {σ : Setting} (c : Connective) {a b : BExp ⊥} →
    MeansB ρ ρ' Γ α σ a → MeansB ρ ρ' Γ α σ b → MeansB ρ ρ' Γ α σ (connect c a b)
unfolding value_b Pᵗ Nᵗ test_p test_n
connect-means {ρ} {ρ'} {Γ} {α} {σ} c {a} {b} m m' =
    let x = value_b ρ Γ α a σ in
    let y = value_b ρ Γ α b σ in
    let t = connect-table Γ α σ ρ' ρ c x y in
    record {
      P_is = connect_p-cong ρ' Γ α σ (P-has m) (N-has m) (P-has m') (N-has m') ρ c ∙ is_some→≡ _ _ (&&-fst (test_p ρ' Γ α σ ρ c x y) (test_n ρ' Γ α σ ρ c x y) t);
      N_is = connect_n-cong ρ' Γ α σ (P-has m) (N-has m) (P-has m') (N-has m') ρ c ∙ is_some→≡ _ _ (&&-snd (test_p ρ' Γ α σ ρ c x y) (test_n ρ' Γ α σ ρ c x y) t);
      relational_defined = λ e. connective-defined ρ c x y (m.relational_defined e) (m'.relational_defined e);
    }

-- The opposite is true where the truth value is false.
is_true-opposite : (x : Option Bool) → is_false x ≡ is_true (opposite x)
unfolding is_true is_false opposite
is_true-opposite none = refl
is_true-opposite (some true) = refl
is_true-opposite (some false) = refl

-- It is false where the truth value is true.
is_false-opposite : (x : Option Bool) → is_true x ≡ is_false (opposite x)
unfolding is_true is_false opposite
is_false-opposite none = refl
is_false-opposite (some true) = refl
is_false-opposite (some false) = refl

-- And defined where that is.
defined-opposite : (x : Option Bool) → T (defined x) → T (defined (opposite x))
unfolding defined opposite
defined-opposite none t = t
defined-opposite (some b) t = t

-- "not: P = Na, N = Pa."
pub negation-means : {ρ ρ' : Reading} {Γ : Declarations} {α : Assignment} {σ : Setting} {a : BExp ⊥} → MeansB ρ ρ' Γ α σ a → MeansB ρ ρ' Γ α σ (negation a)
unfolding value_b Pᵗ Nᵗ
negation-means {ρ} {ρ'} {Γ} {α} {σ} {a} m =
    record {
      P_is = m.N_is ∙ ap some (is_true-opposite (value_b ρ Γ α a σ));
      N_is = m.P_is ∙ ap some (is_false-opposite (value_b ρ Γ α a σ));
      relational_defined = λ e. defined-opposite (value_b ρ Γ α a σ) (m.relational_defined e);
    }
