-- Laws of intervals as the code works them out.
use Rattle.std.proofs.Common.{◌≡◌, ℕ, suc, ◌*◌, ◌≤◌, true, false, ◌&&◌, ℤ, pos, negsuc, ◌*ℤ◌, neg_ℤ, zero, arith, w32, w64, FitsSigned, unsigned_abs, nat_abs, lit<}
use Rattle.std.specs.Prelude.{Option, Some, None}
use Rattle.std.specs.Int.{int_min, int_max}
use Rattle.std.specs.Ordering.{is_le, int_cmp}
use Rattle.std.proofs.lemmas.Int.{ints, to_z-of_z, fits_signed_mul, fits_signed_from_abs}
use native.Mathlib.Nat.{mul-le-mul, le_of_suc-le-suc}
use borrow.Author.Tests.{leb-true}
use Rattle.numbers.specs.Limits.{limit}
use Rattle.language.specs.Syntax.{Slot}
use Rattle.language.specs.Meaning.{count}
use Rattle.numbers.specs.Whole.{least, greatest, within_limit}
use Rattle.std.proofs.lemmas.Option.{MatchOption-at_some, MatchOption-at_none}
use Rattle.intervals.specs.Spans.{slot_of, interval_of, is_within, Narrow, IsNarrowed}
use Rattle.intervals.specs.declared.Ends.{Ends}
use Rattle.intervals.specs.declared.Interval as Declared
use Rattle.rules.specs.Bounds.{Interval, ◌to◌}

-- Intervals with the same ends are the same.
pub to-cong : {a b c d : ℤ} → a ≡ c → b ≡ d → (a to b) ≡ (c to d)
to-cong p q = cc

-- The library's least and greatest of two numbers are the definition's.
pub least-is : (a b : ℤ) → int_min a b ≡ least a b
unfolding least
least-is a b = grind (arith, ints)

pub greatest-is : (a b : ℤ) → int_max a b ≡ greatest a b
unfolding greatest
greatest-is a b = grind (arith, ints)

-- The library's test of a range is the definition's.
pub range-limit : (z : ℤ) → (is_le (int_cmp (negsuc 1_999_999_999) z) && is_le (int_cmp z (pos 2_000_000_000))) ≡ within_limit z
unfolding within_limit
range-limit (pos n) = grind arith
range-limit (negsuc n) = grind arith

-- What is within the limit fits 32 bits.
pub within-fits : (z : ℤ) → within_limit z ≡ true → FitsSigned w32 z
unfolding within_limit
within-fits z e = fits_signed_from_abs w32 z (omega (arith, leb-true (unsigned_abs z) limit e))

-- A slot of 32 bits has at most 2^32 values, and a number of 32 bits times so many fits 64.
pub count-≤ : (s : Slot) → FitsSigned w32 s.low → FitsSigned w32 s.high → count s ≤ 0x1_0000_0000
unfolding count
count-≤ s l h = grind (arith, ints)

negative-fits : (k : ℕ) → k ≤ 0x8000_0000_0000_0000 → FitsSigned w64 (neg_ℤ (pos k))
negative-fits zero h = record { sfits = omega arith }
negative-fits (suc k) h = record { sfits = h }

pub repeats-fits : (n : ℕ) (z : ℤ) → n ≤ 0x1_0000_0000 → FitsSigned w32 z → FitsSigned w64 (pos n *ℤ z)
repeats-fits n (pos m) h f = record { sfits = omega (arith, mul-le-mul h (le_of_suc-le-suc (f.sfits))) }
repeats-fits n (negsuc m) h f = negative-fits (n * suc m) (mul-le-mul h f.sfits)

-- A slot with ends of 32 bits, or 2^31, has at most 2^32 + 1 values, and a number within the limit times so many fits 64 bits.
pub count-narrow : (e : Ends) → Narrow e → count (slot_of e) ≤ 0x1_0000_0001
unfolding count
count-narrow e n = grind (arith, ints)

pub repeats-small : (n : ℕ) (z : ℤ) → n ≤ 0x1_0000_0001 → nat_abs z ≤ limit → FitsSigned w64 (pos n *ℤ z)
repeats-small n z h l = fits_signed_mul w64 (pos n) z 0x1_0000_0001 limit h l (lit< tt)

pub ruleset ends = (to_z-of_z, least-is, greatest-is, within-fits)

-- An interval that was found within the limit, and one that was not.
pub narrowed-some : (e : Interval) {r : Option Declared.Interval} {i : Declared.Interval} → IsNarrowed e r → r ≡ Some i → (interval_of i ≡ e) × (is_within e ≡ true)
narrowed-some e h s = MatchOption-at_some (is_within e ≡ false) (λ i. (interval_of i ≡ e) × (is_within e ≡ true)) _ s h

pub narrowed-none : (e : Interval) {r : Option Declared.Interval} → IsNarrowed e r → r ≡ None → is_within e ≡ false
narrowed-none e h s = MatchOption-at_none (is_within e ≡ false) (λ i. (interval_of i ≡ e) × (is_within e ≡ true)) s h
