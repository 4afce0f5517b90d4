-- The 32 bits of numbers that are read from 32 bits.
use mathlib.Core.Path.{◌≡◌, ap, ◌∙◌}
use mathlib.Core.List.{List}
use mathlib.Core.Logic.{⊎_elim}
use Prim.Native.Nat.{ℕ, suc, ◌+◌, ◌-◌, ◌*◌, ◌%◌, ◌≤◌, ◌<◌}
use native.Mathlib.Omega.{arith}
use lib.IntN.{ℤ, pos, negsuc, ◌+ℤ◌, pred_ℤ}
use Rattle.numbers.proofs.Naturals.{lt_or_ge}
use Rattle.numbers.proofs.Parts.{up, dn, +-parts, pred_parts}
use mir.Syntax.{w32}
use mir.Val.{of_z}
use Rattle.table.specs.Records.{signed, bits_of, record_size, word_at, x_at}
use Rattle.table.proofs.Signs.{signed_low, signed_high, by_sign}

-- A field that is read as the machine's bits is the field.
pub signed-of_z : (bs : List ℕ) (p : ℕ) → signed (of_z w32 (x_at bs p)) ≡ x_at bs p
unfolding x_at
signed-of_z bs p = by_sign (λ z. signed (of_z w32 z) ≡ z) (word_at bs (record_size * p + 4)) (λ l. signed_low _ l) (λ l. signed_high _ (omega arith) ∙ ap negsuc (omega arith))

module _ (w count : ℕ) (h : w < 0x1_0000_0000) (k : count ≤ 0x8000_0000) where
  abbrev sum : ℕ
  sum = (w + count + 0xffff_ffff) % 0x1_0000_0000

  -- The sum stands for z, where w stands for a number from 0 on,
  low : w < 0x8000_0000 → (z : ℤ) → suc (up z) ≡ dn z + (w + count) → sum ≡ bits_of z
  unfolding bits_of
  low l (pos n) e = omega arith
  low l (negsuc n) e = omega arith

  -- and where it stands for one below 0.
  high : 0x8000_0000 ≤ w → (z : ℤ) → suc (up z) + (0x1_0000_0000 - w) ≡ dn z + count → sum ≡ bits_of z
  unfolding bits_of
  high l (pos n) e = omega arith
  high l (negsuc n) e = omega arith

  -- The last of `count` indices from the one that w stands for, in 32 bits.
  pub last-bits : sum ≡ bits_of (pred_ℤ (signed w +ℤ pos count))
  last-bits =
      ⊎_elim
      (λ l. rw (signed_low w l) (low l (pred_ℤ (pos w +ℤ pos count)) (omega (arith, +-parts (pos w) (pos count), pred_parts (pos w +ℤ pos count)))))
      (λ l. rw (signed_high w l) (high l (pred_ℤ (negsuc (0xffff_ffff - w) +ℤ pos count)) (omega (arith, +-parts (negsuc (0xffff_ffff - w)) (pos count), pred_parts (negsuc (0xffff_ffff - w) +ℤ pos count)))))
      (lt_or_ge w 0x8000_0000)
