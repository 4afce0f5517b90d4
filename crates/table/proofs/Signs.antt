-- The signed number that 32 bits stand for, by its sign, and as the machine has it.
use mathlib.Core.Path.{◌≡◌, refl}
use Prim.Native.Nat.{ℕ, ◌-◌, ◌≤◌, ◌<◌}
use borrow.Author.Tests.{ltb-true, ltb-false, lt-ltb, le-ltb}
use mathlib.Core.Bool.{Bool, true, false}
use lib.Dec.{ltb}
use lib.IntN.{ℤ, pos, negsuc}
use Rattle.table.specs.Records.{signed}

-- below the sign bit the number is the bits
pub signed_low : (w : ℕ) → w < 0x8000_0000 → signed w ≡ pos w
unfolding signed
signed_low w h = rw (lt-ltb w 0x8000_0000 h)

-- from the sign bit on it is negative
pub signed_high : (w : ℕ) → 0x8000_0000 ≤ w → signed w ≡ negsuc (0xffff_ffff - w)
unfolding signed
signed_high w h = rw (le-ltb w 0x8000_0000 h)

-- what holds on either side of the sign bit holds of every word
pub by_sign : (P : ℤ → Type 0) (w : ℕ) → (w < 0x8000_0000 → P (pos w)) → (0x8000_0000 ≤ w → P (negsuc (0xffff_ffff - w))) → P (signed w)
by_sign P w low high = go (ltb w 0x8000_0000) (ltb-true w 0x8000_0000) (ltb-false w 0x8000_0000)
  where
    go : (b : Bool) → (b ≡ true → w < 0x8000_0000) → (b ≡ false → 0x8000_0000 ≤ w) → P (signed w)
    go true h k = rw (signed_low w (h refl)) (low (h refl))
    go false h k = rw (signed_high w (k refl)) (high (k refl))
