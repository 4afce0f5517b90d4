-- Magnitudes of sums, differences and products, and that a number of small magnitude fits 64 bits.
use mathlib.Core.Path.{◌≡◌, refl}
use Prim.Native.Nat.{◌+◌, ◌≤◌, ◌<◌}
use native.Mathlib.Omega.{arith}
use lib.IntN.{ℤ, pos, negsuc, neg_ℤ, ◌+ℤ◌, ◌-ℤ◌, nat_abs}
use mir.Syntax.{w64}
use mir.Val.{SFits}
use Rattle.numbers.proofs.Parts.{+-parts, nat_abs-parts}
use Rattle.numbers.proofs.Division.{nat_abs-neg}

-- A sum and a difference are of no greater magnitude than the operands together.
pub nat_abs-+-≤ : (a b : ℤ) → nat_abs (a +ℤ b) ≤ nat_abs a + nat_abs b
nat_abs-+-≤ a b = nat_abs-sum (a +ℤ b) refl
  where
    nat_abs-sum : (z : ℤ) → z ≡ a +ℤ b → nat_abs z ≤ nat_abs a + nat_abs b
    nat_abs-sum (pos n) e = let p : _ = +-parts a b in omega (arith, rw (← e) at p, nat_abs-parts a, nat_abs-parts b)
    nat_abs-sum (negsuc n) e = let p : _ = +-parts a b in omega (arith, rw (← e) at p, nat_abs-parts a, nat_abs-parts b)

pub nat_abs---≤ : (a b : ℤ) → nat_abs (a -ℤ b) ≤ nat_abs a + nat_abs b
nat_abs---≤ a b = omega (arith, nat_abs-+-≤ a (neg_ℤ b), nat_abs-neg b)

-- A magnitude below 2^63 fits 64 bits.
pub nat_abs→fits : (z : ℤ) → nat_abs z < 0x8000_0000_0000_0000 → SFits w64 z
nat_abs→fits (pos n) h = record { sfits = h }
nat_abs→fits (negsuc n) h = record { sfits = omega arith }
