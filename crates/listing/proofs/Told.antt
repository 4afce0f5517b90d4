-- What a translation gives tells the listing's text.
use mathlib.Core.Path.{◌≡◌, refl, ap, ◌∙◌}
use Prim.Native.Nat.{ℕ, zero, suc, ◌*◌, ◌/◌, ◌≤◌, ◌<◌}
use native.Mathlib.Nat.{mul-div_right, mul-suc, add-zero}
use native.Mathlib.Omega.{arith}
use mathlib.Core.Bool.{false, cond}
use lib.Dec.{eqb}
use mathlib.Core.List.{List, ◌++◌}
use mathlib.Core.Option.{Option, none, some}
use borrow.Author.Tests.{ne_eqb}
use lib.ListN.{length, length-append, replicate, length-replicate}
use Rattle.numbers.specs.Limits.{most_bytes}
use Rattle.table.specs.Records.{record_size, byte_at}
use Rattle.table.proofs.Alike.{Alike, Alike-left, kind_at-alike, aux_at-alike, x_at-alike, y_at-alike}
use Rattle.table.proofs.Marks.{0<record_size}
use Rattle.answers.specs.Check.{Refusal, first, check_fault}
use Rattle.answers.specs.Answers.{Answer, Outcome, refused, done, outcome, reading_chosen, translation, new_count, translate_order, translation_done, translate}
use Rattle.answers.specs.Listing.{line_of, lines_of, listing_of}
use Rattle.answers.proofs.Faults.{none-or_else}
use Rattle.answers.proofs.Passed.{check_fault≡none→Passed}
use Rattle.answers.proofs.NewRecords.{length-translation}
use Rattle.answers.proofs.Numbers.{up_to→1≤, translate_order-numbered}
use Rattle.lines.specs.Pieces.{refusal_text}

-- ---- the text for what a translation gives

-- For its number, record and length, and the bytes that it left: the records of the new table, or the refusal.
unfoldable pub text_for : ℕ → ℕ → ℕ → List ℕ → List ℕ
text_for number at written new = cond (eqb number 0) (lines_of new (written / record_size)) (refusal_text number at)

abbrev pub text_of : Answer → List ℕ → List ℕ
text_of a new = text_for a.number a.at a.length_written new

-- ---- the lines of records at the front of a longer byte string

1<record_size : 1 < record_size
unfolding record_size
1<record_size = omega arith

line_of-alike : {bs cs : List ℕ} {k : ℕ} → Alike bs k cs k → line_of bs k ≡ line_of cs k
unfolding line_of
line_of-alike {bs} {cs} {k} h =
    let first : byte_at bs (record_size * k) ≡ byte_at cs (record_size * k) = simp add-zero at (h.bytes 0 0<record_size) in
    rw (first, h.bytes 1 1<record_size, kind_at-alike h, aux_at-alike h, x_at-alike h, y_at-alike h)

lines_of-front : (xs ys : List ℕ) (n : ℕ) → record_size * n ≤ length xs → lines_of (xs ++ ys) n ≡ lines_of xs n
unfolding lines_of
lines_of-front xs ys zero h = refl
lines_of-front xs ys (suc n) h =
    let less : record_size * n ≤ length xs = omega (arith, rw (mul-suc record_size n) at h) in
    rw (lines_of-front xs ys n less, line_of-alike (Alike-left xs ys n h))

-- ---- the text

text-refused : (r : Refusal) (lent : List ℕ) → 0 < r.number → text_of (refused r) lent ≡ refusal_text r.number r.at
unfolding text_for refused
text-refused r lent h = rw (ne_eqb r.number 0 (λ e. omega (arith, e)))

text-done : (new rest : List ℕ) (n : ℕ) → length new ≡ record_size * n → text_of (done 0 (length new) false) (new ++ rest) ≡ lines_of new n
unfolding text_for done
text-done new rest n e = rw (e, mul-div_right n 0<record_size) (lines_of-front new rest n (omega (arith, e)))

-- the text for an outcome
abbrev pub texts_of : Outcome → List ℕ
texts_of o = text_of o.answer o.lent

-- The text for what a translation into 60,000 bytes gives is the listing.
pub text-listed : (choice : ℕ) (table lent : List ℕ) → length lent ≡ most_bytes → texts_of (translate choice table lent) ≡ listing_of choice table
unfolding translate translation_done listing_of outcome translate_order first
text-listed choice table lent e = go (first (translate_order choice table most_bytes)) refl
  where
    go : (f : Option Refusal) → first (translate_order choice table most_bytes) ≡ f → texts_of (translate choice table lent) ≡ listing_of choice table
    go none h =
        let passed = check_fault≡none→Passed table (none-or_else (check_fault table) _ (none-or_else _ _ h).1).0 in
        rw (translate, listing_of, e, h) (text-done (translation table (reading_chosen choice)) _ (new_count table (reading_chosen choice)) (length-translation table (reading_chosen choice) passed))
    go (some r) h = rw (translate, listing_of, e, h) (text-refused r lent (up_to→1≤ 9 {n = r.number} (rw h at (translate_order-numbered choice table most_bytes))))

-- ---- the length

-- what an outcome says is written lies within its lent bytes
abbrev Within : Outcome → Type 0
Within o = o.answer.length_written ≤ length o.lent

outcome-within : (f : Option Refusal) (new lent : List ℕ) → Within (outcome f (done 0 (length new) false) new lent)
unfolding outcome done refused
outcome-within none new lent = simp length-append (omega arith)
outcome-within (some r) new lent = omega arith

pub translate-within : (choice : ℕ) (table lent : List ℕ) → Within (translate choice table lent)
unfolding translate translation_done
translate-within choice table lent = outcome-within _ (translation table (reading_chosen choice)) lent

-- What is written lies within the lent bytes.
pub answer-within : (choice : ℕ) (table lent : List ℕ) {a : Answer} {new : List ℕ} → record { answer = a; lent = new } ≡ translate choice table lent → a.length_written ≤ length new
answer-within choice table lent e = rw (ap (λ (o : Outcome). o.answer.length_written) e, ap (λ (o : Outcome). length o.lent) e) (translate-within choice table lent)

-- ---- what the code is given for 60,000 bytes of 0

module _ (choice : ℕ) (table : List ℕ) {a : Answer} {new : List ℕ} (e : record { answer = a; lent = new } ≡ translate choice table (replicate 60_000 0)) where
  text-told : text_of a new ≡ listing_of choice table
  text-told = ap texts_of e ∙ text-listed choice table (replicate 60_000 0) (length-replicate {A = ℕ} 60_000 0)

  -- At number 0 the lines of the new table are the listing;
  pub lines-told : {written : ℕ} → a.number ≡ 0 → written ≡ a.length_written → lines_of new (written / record_size) ≡ listing_of choice table
  unfolding text_for
  lines-told z w = rw w (rw z at text-told)

  -- at another the line of the refusal is.
  pub refusal-told : {number at : ℕ} → (number ≡ 0 → ⊥) → number ≡ a.number → at ≡ a.at → refusal_text number at ≡ listing_of choice table
  unfolding text_for
  refusal-told {number} z n k = rw (n, k) (rw (ne_eqb a.number 0 (rw n at z)) at text-told)
