-- A sum so far, over the language's values.
-- Internal: a contract behind the public ones; no public promise cites it.
use Rattle.std.specs.Prelude.{ℕ, Bool, true, false, ◌&&◌, ℤ, ◌+ℤ◌, pos, nat_abs, Some, None, unwrap_or}
use Rattle.std.proofs.Math.Option.{Option, none, some}
use Rattle.language.specs.Readings.{both}
use Rattle.operations.specs.declared.values.Walked.{Walked}
use Rattle.operations.specs.declared.sums.Total.{Total}
use Rattle.operations.specs.Values.{optional, integer_of}

-- a sum so far as the code has it
abbrev pub total_of : Bool → Option ℤ → Total
total_of true (some z) = record { sum = Some z; within = true }
total_of true none = record { sum = None; within = true }
total_of false v = record { sum = None; within = false }

abbrev pub total_value : Total → Option ℤ
total_value t = optional t.sum

-- how far from 0 it lies; 0 where it is undefined
abbrev pub magnitude : Total → ℕ
magnitude t = nat_abs (unwrap_or t.sum (pos 0))

-- one addend more
unfoldable pub plus_to : Total → Walked → Total
plus_to t a = total_of (t.within && a.within) (both (λ x y. some (x +ℤ y)) (total_value t) (integer_of a.value))
