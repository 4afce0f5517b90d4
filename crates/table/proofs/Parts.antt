-- The fields of a record fit 32 bits, so a field that is read as it stands is the field.
use mathlib.Core.Path.{◌≡◌}
use Prim.Native.Nat.{ℕ}
use native.Mathlib.Omega.{arith}
use mathlib.Core.List.{List}
use lib.Dec.{ltb, ltb→lt, nltb→le}
use mir.Syntax.{w32}
use mir.Val.{SFits, of_z, to_z}
use mir.Facts.{to_z-of_z}
use Rattle.numbers.proofs.Tests.{cond_cases}
use Rattle.table.specs.Records.{signed, x_at, y_at}

pub signed-fits : (w : ℕ) → SFits w32 (signed w)
unfolding signed
signed-fits w = cond_cases (SFits w32) (ltb w 0x8000_0000) (λ t. record { sfits = omega (arith, ltb→lt w 0x8000_0000 t) }) (λ t. record { sfits = omega (arith, nltb→le w 0x8000_0000 t) })

pub x-read : (bs : List ℕ) (k : ℕ) → to_z w32 (of_z w32 (x_at bs k)) ≡ x_at bs k
unfolding x_at
x-read bs k = to_z-of_z {w = w32} (signed-fits _)

pub y-read : (bs : List ℕ) (k : ℕ) → to_z w32 (of_z w32 (y_at bs k)) ≡ y_at bs k
unfolding y_at
y-read bs k = to_z-of_z {w = w32} (signed-fits _)
