-- A setting that fits always exists: each slot at its low end. And so does an assignment: each variable at its low end.
use mathlib.Core.Path.{◌≡◌}
use Prim.Native.Nat.{ℕ, ◌<◌}
use mathlib.Core.Bool.{cond}
use mathlib.Core.List.{map}
use lib.Dec.{ltb, lt→ltb}
use lib.IntN.{pos}
use lib.ListN.{length, get_or-map}
use lib.Signed.{◌≤ℤ◌, ≤ℤ_refl}
use Rattle.numbers.proofs.Tests.{T→≡true}
use Rattle.numbers.proofs.Order.{≤-greatestˡ}
use Rattle.language.specs.Syntax.{Variable, Declarations}
use Rattle.language.specs.Meaning.{Assignment, Setting, value_of, slot_at}
use Rattle.rules.specs.Bounds.{no_variable, variable_at, variable_interval, slot_interval}
use Rattle.rules.specs.Soundness.{Within, Fits, IsSlot}

module _ (Γ : Declarations) where
  -- each declared slot at its low end, any other number at 0
  unfoldable pub low_setting : Setting
  low_setting s = cond (ltb s (length Γ.slots)) (slot_at Γ s).low (pos 0)

  -- A declared slot's low end lies in its interval: "x..x for an empty range".
  pub low_setting-within : (s : ℕ) → IsSlot Γ s → Within (slot_interval (slot_at Γ s)) (low_setting s)
  unfolding low_setting slot_interval
  low_setting-within s h =
      rw (T→≡true (ltb s (length Γ.slots)) (lt→ltb s (length Γ.slots) h))
      (record { above = ≤ℤ_refl (slot_at Γ s).low; below = ≤-greatestˡ (slot_at Γ s).low (slot_at Γ s).high })

  -- each variable at its low end
  unfoldable pub low_assignment : Assignment
  low_assignment = map (λ v. v.low) Γ.variables

  -- It gives each variable its low end.
  value_of-low_assignment : (v : ℕ) → value_of low_assignment v ≡ (variable_at Γ v).low
  unfolding value_of low_assignment variable_at no_variable
  value_of-low_assignment v = get_or-map (λ (x : Variable). x.low) Γ.variables v no_variable

  -- Where no domain is empty, the low ends fit.
  pub low_ends_fit : ((v : ℕ) → v < length Γ.variables → (variable_at Γ v).low ≤ℤ (variable_at Γ v).high) → Fits Γ low_assignment low_setting
  unfolding variable_interval
  low_ends_fit h =
      record {
        variables = λ v l. rw value_of-low_assignment (record { above = ≤ℤ_refl (variable_at Γ v).low; below = h v l });
        slots = low_setting-within;
      }
