-- Input that is too long: "above 60,000". The program reads no more than it needs: the text for the first bytes is the text for all.
use mathlib.Core.Path.{◌≡◌, refl}
use Prim.Native.Nat.{ℕ, zero, suc, ◌+◌, ◌%◌, ◌≤◌, ◌<◌}
use native.Mathlib.Omega.{arith}
use native.Mathlib.Decide.{dec_le}
use mathlib.Core.Bool.{Bool, true, false, ◌&&◌}
use mathlib.Core.List.{List, [], ◌∷◌}
use mathlib.Core.Option.{none, some, or_else}
use borrow.Author.Tests.{lt-leb}
use lib.Dec.{eqb, leb}
use lib.ListN.{length, take}
use lib.Seq.{take_all, length-take-le}
use Rattle.numbers.specs.Limits.{most_bytes}
use Rattle.table.specs.Records.{record_size}
use Rattle.answers.specs.Check.{first, length_allowed, length_fault, check_order, check_fault, refuse}
use Rattle.answers.specs.Answers.{is_reading, refuse_unless, translate_order}
use Rattle.answers.specs.Listing.{refusal_line, choice_of, listing_of, listing}

unlike : (a b c : Bool) → b ≡ false → (a && b && c) ≡ false
unlike true b c e = rw e
unlike false b c e = refl

disallowed : (table : List ℕ) → length_allowed table ≡ false → check_fault table ≡ refuse 1 0
unfolding check_fault check_order first length_fault or_else
disallowed table e = rw e

too_long : (table : List ℕ) → most_bytes < length table → length_allowed table ≡ false
unfolding length_allowed
too_long table h = unlike (leb record_size (length table)) (leb (length table) most_bytes) (eqb (length table % record_size) 0) (lt-leb (length table) most_bytes h)

-- A table that is refused with 1 is refused with 7 or 1, whatever comes behind.
refused_first : (choice : ℕ) (table : List ℕ) → check_fault table ≡ refuse 1 0
    → first (translate_order choice table most_bytes) ≡ or_else (refuse_unless 7 (is_reading choice)) (refuse 1 0)
unfolding translate_order first or_else
refused_first choice table e = rw e

-- Behind 7 or 1 it does not matter what a text without a fault would be.
text-refused : (a b : List ℕ) (t : Bool)
    → ◌≡◌ {A = List ℕ} (elim (or_else (refuse_unless 7 t) (refuse 1 0)) [ none ↦ a | some r ↦ refusal_line r ]) (elim (or_else (refuse_unless 7 t) (refuse 1 0)) [ none ↦ b | some r ↦ refusal_line r ])
unfolding refuse_unless or_else
text-refused a b true = refl
text-refused a b false = refl

-- So such tables get the same text.
refused-alike : (choice : ℕ) (table other : List ℕ) → check_fault table ≡ refuse 1 0 → check_fault other ≡ refuse 1 0 → listing_of choice table ≡ listing_of choice other
unfolding listing_of
refused-alike choice table other p q = rw (listing_of, refused_first choice table p, refused_first choice other q) (text-refused _ _ (is_reading choice))

-- Every table above 60,000 bytes gets the same text.
pub long-alike : (choice : ℕ) (table other : List ℕ) → most_bytes < length table → most_bytes < length other → listing_of choice table ≡ listing_of choice other
long-alike choice table other p q = refused-alike choice table other (disallowed table (too_long table p)) (disallowed other (too_long other q))

-- The choice and 60,001 bytes tell the text of any longer input.
pub first-bytes : (input : List ℕ) (n : ℕ) → most_bytes + 2 ≤ n → listing (take n input) ≡ listing input
unfolding listing
first-bytes [] zero h = refl
first-bytes [] (suc n) h = refl
first-bytes (b ∷ table) zero h = absurd (omega (arith, h))
first-bytes (b ∷ table) (suc n) h = go (dec_le (length table) n)
  where
    go : Dec (length table ≤ n) → listing_of (choice_of b) (take n table) ≡ listing_of (choice_of b) table
    go (yes l) = rw (take_all n table l)
    go (no l) =
        let k : n ≤ length table = omega arith in
        long-alike (choice_of b) (take n table) table (rw (length-take-le n table k) (omega arith)) (omega arith)
