-- The rule of the sum: "V = sum of Va, D = forall of Da."
use mathlib.Core.Path.{◌≡◌, refl, ap₂}
use Prim.Native.Nat.{ℕ, suc, ◌<◌}
use mathlib.Core.Option.{Option, some}
use lib.IntN.{ℤ, pos, ◌+ℤ◌}
use Rattle.language.specs.Syntax.{IExp, sum, Declarations}
use Rattle.language.specs.Readings.{Reading, both, summed}
use Rattle.language.specs.Meaning.{Assignment, Setting, put, slot_at, count, value_i}
use Rattle.language.proofs.Ranges.{over-relates}
use Rattle.rules.specs.Bounds.{Interval, interval}
use Rattle.rules.specs.Soundness.{Within}
use Rattle.rules.specs.TotalRows.{defined}
use Rattle.rules.proofs.Claims.{MeansI}
use Rattle.rules.proofs.Companions.{Vᵗ, Dᵗ}
use Rattle.rules.proofs.Intervals.{ends, sum-within-zero, sum-within-suc}
use Rattle.rules.proofs.Operands.{Agrees, defined-both, agrees-both}
use Rattle.rules.proofs.Formulas.{D-has}
use Rattle.rules.proofs.Quantifiers.{forall-has}

-- The sum of n values of V, beside that of the node's: it has a value, within n times the body's ends, that agrees with the node's.
record Partial (i : Interval) (n : ℕ) (v w : Option ℤ) : Type 0 where
  value : ℤ
  is : v ≡ some value
  within : Within (ends n i) value
  agrees : Agrees value w

-- one summand more
abbrev plus : Option ℤ → Option ℤ → Option ℤ
plus = both (λ a b. some (a +ℤ b))

-- The empty sum is 0.
partial_zero : (i : Interval) → Partial i 0 (some (pos 0)) (some (pos 0))
partial_zero i = record { value = pos 0; is = refl; within = sum-within-zero i; agrees = λ z e. cc }

module _ {ρ ρ' : Reading} {Γ : Declarations} {α : Assignment} where
  -- One summand more, from what V and D of the body mean.
  partial_suc : (n : ℕ) {σ : Setting} {a : IExp ⊥} {v w : Option ℤ} → Partial (interval Γ a) n v w → MeansI ρ ρ' Γ α σ a →
      Partial (interval Γ a) (suc n) (plus v (value_i ρ' Γ α (Vᵗ ρ Γ a) σ)) (plus w (value_i ρ Γ α a σ))
  unfolding both
  partial_suc n {σ} {a} {v} {w} p m = record {
    value = p.value +ℤ m.value;
    is = ap₂ plus p.is m.V_is;
    within = sum-within-suc n p.within m.V_within;
    agrees = agrees-both ◌+ℤ◌ w (value_i ρ Γ α a σ) p.agrees m.V_agrees;
  }

  module _ (σ : Setting) (s : ℕ) {a : IExp ⊥} (m : (k : ℕ) → k < count (slot_at Γ s) → MeansI ρ ρ' Γ α (put σ s ((slot_at Γ s).low +ℤ pos k)) a) where
    -- The sum over the whole range.
    partial_whole : Partial (interval Γ a) (count (slot_at Γ s)) (value_i ρ' Γ α (sum s (Vᵗ ρ Γ a)) σ) (value_i ρ Γ α (sum s a) σ)
    unfolding value_i summed
    partial_whole =
        over-relates plus plus (slot_at Γ s).low (λ d. value_i ρ' Γ α (Vᵗ ρ Γ a) (put σ s d)) (λ d. value_i ρ Γ α a (put σ s d)) (Partial (interval Γ a))
        (partial_zero (interval Γ a)) (count (slot_at Γ s)) (λ k l v w p. partial_suc k p (m k l))

    -- V and D of a sum, from those of its body at each value of the slot.
    pub sum-means : MeansI ρ ρ' Γ α σ (sum s a)
    unfolding value_i Vᵗ Dᵗ interval summed defined
    sum-means = record {
      value = partial_whole.value;
      V_is = partial_whole.is;
      V_within = partial_whole.within;
      D_is = (forall-has ρ' Γ α σ s plus (λ d. value_i ρ Γ α a (put σ s d)) defined refl (defined-both ◌+ℤ◌) (Dᵗ ρ Γ a) (λ k l. D-has (m k l))).is;
      V_agrees = partial_whole.agrees;
    }
