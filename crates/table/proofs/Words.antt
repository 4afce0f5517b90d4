-- Words: a signed number of 32 bits is read back from the bytes that it is written as.
use mathlib.Core.Path.{◌≡◌, ap, ◌∙◌}
use Prim.Native.Nat.{ℕ, ◌+◌, ◌*◌, ◌-◌, ◌/◌, ◌%◌, ◌<◌}
use native.Mathlib.Nat.{div-div-eq-div-mul}
use native.Mathlib.Omega.{arith}
use lib.IntN.{ℤ, pos, negsuc}
use lib.Signed.{mag}
use Rattle.table.specs.Records.{signed, bits_of}
use Rattle.table.proofs.Signs.{signed_low, signed_high}

-- z is a signed number of 32 bits
abbrev pub InWord : ℤ → Type 0
InWord z = mag z < 0x8000_0000

-- Its bits are 32,
bits_of-below : (z : ℤ) → InWord z → bits_of z < 0x1_0000_0000
unfolding bits_of
bits_of-below (pos n) h = omega arith
bits_of-below (negsuc n) h = omega arith

-- and they stand for it.
signed-bits_of : (z : ℤ) → InWord z → signed (bits_of z) ≡ z
unfolding bits_of
signed-bits_of (pos n) h = signed_low n h
signed-bits_of (negsuc n) h = signed_high (0xffff_ffff - n) (omega arith) ∙ ap negsuc (omega arith)

-- Four bytes of 32 bits, low byte first, make up the word.
bytes_word : (w : ℕ) → w < 0x1_0000_0000 → w % 256 + 256 * (w / 256 % 256 + 256 * (w / 65_536 % 256 + 256 * (w / 16_777_216 % 256))) ≡ w
bytes_word w h = rw (← div-div-eq-div-mul w 256 256, ← div-div-eq-div-mul w 65_536 256, ← div-div-eq-div-mul w 256 256) (omega arith)

-- So the four bytes of a number's bits stand for the number.
pub signed-bytes : (z : ℤ) → InWord z
    → signed (bits_of z % 256 + 256 * (bits_of z / 256 % 256 + 256 * (bits_of z / 65_536 % 256 + 256 * (bits_of z / 16_777_216 % 256)))) ≡ z
signed-bytes z h = ap signed (bytes_word (bits_of z) (bits_of-below z h)) ∙ signed-bits_of z h
