-- The language's definitions, opened: value, steps and what is met, as functions that compute on closed expressions. The trials are stated with these,
-- so that the long line of what unfolds stands once. Every slot is 0 where nothing binds it.
use Prim.Native.Nat.{ℕ}
use mathlib.Core.Bool.{Bool}
use mathlib.Core.List.{[], ◌∷◌}
use mathlib.Core.Option.{Option, bind}
use lib.IntN.{ℤ, pos}
use Rattle.numbers.specs.Whole as Whole
use Rattle.language.specs.Syntax.{IExp, BExp, Declarations}
use Rattle.language.specs.Readings as Readings
use Rattle.language.specs.Readings.{Reading}
use Rattle.language.specs.Meaning as Meaning
use Rattle.language.specs.Meaning.{Assignment, value_i, value_b, met_within_i, met_within_b}
use Rattle.language.specs.Steps.{cost_i, cost_b}

-- values at an assignment
unfoldable pub worth_b-at : Assignment → Reading → Declarations → BExp ⊥ → Option Bool
unfolding Whole.eq_z Whole.least Whole.greatest Whole.quotient Whole.remainder Readings.both Readings.arithmetic Readings.part Readings.division Readings.comparison Readings.logic Readings.strictly Readings.kleene_and Readings.kleene_or Readings.opposite Readings.kleenely Readings.connective Readings.atomic Readings.over Readings.joins Readings.of_none Readings.quantified Readings.summed Meaning.put Meaning.no_slot Meaning.no_array Meaning.slot_at Meaning.array_at Meaning.count Meaning.is_one Meaning.number Meaning.value_of Meaning.element_value Meaning.element_at value_i bind
worth_b-at α ρ Γ e = value_b ρ Γ α e (λ s. pos 0)

unfoldable pub worth_i-at : Assignment → Reading → Declarations → IExp ⊥ → Option ℤ
unfolding worth_b-at
worth_i-at α ρ Γ e = value_i ρ Γ α e (λ s. pos 0)

-- and where variable 0 is 3 and variable 1 is 1
unfoldable pub worth_b : Reading → Declarations → BExp ⊥ → Option Bool
unfolding worth_b-at
worth_b ρ Γ e = worth_b-at (pos 3 ∷ pos 1 ∷ []) ρ Γ e

unfoldable pub worth_i : Reading → Declarations → IExp ⊥ → Option ℤ
unfolding worth_i-at
worth_i ρ Γ e = worth_i-at (pos 3 ∷ pos 1 ∷ []) ρ Γ e

-- whether every number met is within the limit
unfoldable pub stays_i : Assignment → Reading → Declarations → IExp ⊥ → Bool
unfolding worth_b-at Whole.within_limit Meaning.value_within Meaning.throughout met_within_i
stays_i α ρ Γ e = met_within_i ρ Γ α e (λ s. pos 0)

unfoldable pub stays_b : Assignment → Reading → Declarations → BExp ⊥ → Bool
unfolding stays_i
stays_b α ρ Γ e = met_within_b ρ Γ α e (λ s. pos 0)

-- steps
unfoldable pub steps_i : Declarations → IExp ⊥ → ℕ
unfolding Meaning.no_slot Meaning.slot_at Meaning.count cost_i
steps_i Γ e = cost_i Γ e

unfoldable pub steps_b : Declarations → BExp ⊥ → ℕ
unfolding steps_i
steps_b Γ e = cost_b Γ e
