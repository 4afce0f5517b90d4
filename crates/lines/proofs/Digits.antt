-- A number's decimal digits are those that std writes of it: the last stands behind the others, and there are ten at most, three of a byte.
use Rattle.std.proofs.Common.{◌≡◌, ℕ, suc, ◌+◌, ◌/◌, ◌%◌, ◌<◌, ◌≤◌, ◌^◌, true, false, [], ◌∷◌, ◌++◌, length, ℤ, pos, negsuc, refl, sym, ap, ◌∙◌, arith, length-append, w64, to_z, of_z}
use borrow.Author.Tests.{lt-ltb, le-ltb}
use Rattle.std.specs.Prelude.{unsigned_abs}
use Rattle.std.specs.Fmt as Fmt
use Rattle.std.proofs.lemmas.Bool.{false≢true}
use lib.Signed.{lt_z, mag}
use mir.Val.{SFits}
use mir.Facts.{to_z-of_z}
use Rattle.std.proofs.lemmas.Fmt.{decimal_from_appends, decimal_digit, decimal_step, length-decimal-le}
use Rattle.answers.specs.Listing.{digits, decimal, signed_decimal}

digits_last : (k n : ℕ) → n < 10 → digits (suc k) n ≡ (48 + n) ∷ []
unfolding digits
digits_last k n h = rw (digits, lt-ltb n 10 h)

digits_more : (k n : ℕ) → 10 ≤ n → digits (suc k) n ≡ digits k (n / 10) ++ ((48 + n % 10) ∷ [])
unfolding digits
digits_more k n h = rw (digits, le-ltb n 10 h)

module _ (w : ℕ) (small : w < 2 ^ 32) where
  length-le : (k : ℕ) → 0 < k → w < 10 ^ k → length (Fmt.decimal w) ≤ k
  length-le k h l = length-decimal-le k w h l (omega arith)

  decimal_is : decimal w ≡ Fmt.decimal w
  unfolding decimal
  decimal_is = decimal_from_appends digits (record { one = digits_last; more = digits_more }) 10 w (omega arith) (length-le 10 (omega arith) (omega arith))

  pub length-decimal : length (decimal w) ≤ 10
  length-decimal = rw decimal_is (length-le 10 (omega arith) (omega arith))

  pub length-byte : w < 256 → length (decimal w) ≤ 3
  length-byte h = rw decimal_is (length-le 3 (omega arith) (omega arith))

  pub decimal_last : w < 10 → decimal w ≡ (48 + w) ∷ []
  decimal_last h = decimal_is ∙ decimal_digit w h

module _ (w : ℕ) (small : w < 2 ^ 32) where
  pub decimal_more : 10 ≤ w → decimal w ≡ decimal (w / 10) ++ ((48 + w % 10) ∷ [])
  decimal_more h = decimal_is w small ∙ decimal_step w h (omega arith) ∙ ap (λ ds. ds ++ ((48 + w % 10) ∷ [])) (sym (decimal_is (w / 10) (omega arith)))

  pub length-more : 10 ≤ w → length (decimal w) ≡ length (decimal (w / 10)) + 1
  length-more h = ap length (decimal_more h) ∙ length-append (decimal (w / 10)) ((48 + w % 10) ∷ [])

-- ---- signed numbers

below : (x : ℤ) → lt_z x (pos 0) ≡ true → signed_decimal x ≡ 45 ∷ decimal (unsigned_abs x)
unfolding signed_decimal
below (pos n) h = absurd (false≢true (sym (le-ltb n 0 (omega arith)) ∙ h))
below (negsuc n) h = refl

above : (x : ℤ) → lt_z x (pos 0) ≡ false → signed_decimal x ≡ decimal (unsigned_abs x)
unfolding signed_decimal
above (pos n) h = refl
above (negsuc n) h = absurd (false≢true (sym h))

-- The code reads x from 64 bits.
module _ {x : ℤ} (fits : SFits w64 x) where
  pub signed_below : lt_z (to_z w64 (of_z w64 x)) (pos 0) ≡ true → signed_decimal x ≡ 45 ∷ decimal (unsigned_abs (to_z w64 (of_z w64 x)))
  signed_below h = rw (to_z-of_z fits) (below x (rw (to_z-of_z fits) at h))

  pub signed_above : lt_z (to_z w64 (of_z w64 x)) (pos 0) ≡ false → signed_decimal x ≡ decimal (unsigned_abs (to_z w64 (of_z w64 x)))
  signed_above h = rw (to_z-of_z fits) (above x (rw (to_z-of_z fits) at h))

-- ---- the fields of a line, which the code takes as numbers of 64 bits

-- What the code reads of z, which is x.
module _ {z x : ℤ} (fits : mag z < 2 ^ 63) (e : z ≡ x) where
  pub field_is : to_z w64 (of_z w64 z) ≡ x
  field_is = to_z-of_z {w = w64} (record { sfits = fits }) ∙ e

  pub length-field : unsigned_abs x < 2 ^ 32 → length (signed_decimal (to_z w64 (of_z w64 z))) ≤ 11
  unfolding signed_decimal
  length-field h = rw field_is (go x h)
    where
      go : (y : ℤ) → unsigned_abs y < 2 ^ 32 → length (signed_decimal y) ≤ 11
      go (pos n) h = omega (arith, length-decimal n h)
      go (negsuc n) h = omega (arith, length-decimal (suc n) h)

module _ {z : ℤ} {n : ℕ} (fits : mag z < 2 ^ 63) (e : z ≡ pos n) where
  pub length-byte_field : n < 256 → length (signed_decimal (to_z w64 (of_z w64 z))) ≤ 3
  unfolding signed_decimal
  length-byte_field h = rw (field_is fits e) (length-byte n (omega arith) h)
