-- The record behind an array, as the code adds it up.
use mathlib.Core.Path.{◌≡◌}
use Prim.Native.Nat.{ℕ, ◌+◌}
use native.Mathlib.Omega.{arith}
use mathlib.Core.List.{List}
use lib.IntN.{nat_abs}
use Rattle.table.specs.Records.{y_at}
use Rattle.answers.specs.Sections.{behind_array}

pub behind-at : (bs : List ℕ) (p : ℕ) → p + 1 + nat_abs (y_at bs p) ≡ behind_array bs p
unfolding behind_array
behind-at bs p = omega arith
