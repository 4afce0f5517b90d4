-- Which answer each way through the code gives.
use mathlib.Core.Path.{◌≡◌, sym, ap, ◌∙◌}
use Prim.Native.Nat.{ℕ, zero, suc, ◌+◌, ◌*◌, ◌/◌, ◌≤◌, ◌<◌}
use native.Mathlib.Omega.{arith}
use mathlib.Core.Bool.{Bool, true, false, cond, ◌&&◌}
use mathlib.Core.List.{List, ◌++◌}
use mathlib.Core.Option.{Option, none, some, map, or_else}
use borrow.Author.Tests.{leb-true}
use lib.Dec.{leb}
use Rattle.std.specs.Prelude.{Ok, Err}
use lib.ListN.{length, drop}
use Rattle.numbers.specs.Limits.{most_bytes}
use Rattle.language.specs.Readings.{Reading}
use Rattle.numbers.proofs.Tests.{and_left, and_right}
use Rattle.table.specs.Records.{record_size}
use Rattle.answers.specs.Check as Check
use Rattle.answers.specs.Check.{refuse, first_fault, check_fault}
use Rattle.answers.specs.Sections.{nodes_at, node_count, rows}
use Rattle.answers.specs.Answers as Answers
use Rattle.answers.specs.Answers.{Outcome, refused, done, outcome, reading_of, refuse_unless, bounds_fault, new_count, room_fault, translation, translate_order, translation_done}
use Rattle.answers.proofs.Orders.{no-reading, reading_chosen-is, translate-faults}
use Rattle.answers.proofs.Faults.{or_else-none, or_else-some}
use Rattle.answers.proofs.SameTests.{leb-same}
use Rattle.answers.proofs.Declared.{length-rows}
use Rattle.layout.specs.Passed.{Passed}
use Rattle.layout.proofs.Order.{ordered}
use Rattle.verdict.specs.declared.Fault.{Fault}
use Rattle.verdict.specs.Results as Verdict
use Rattle.translation.specs.declared.Refusal.{Refusal}
use Rattle.translation.specs.declared.Refusal.TheVariants.{BadChoice, Unsound, NoRoom}
use Rattle.translation.specs.Under.{TranslatesUnder}
use Rattle.translation.specs.Results.{number_and_record, answer_of, outcome_of}

-- ---- the choice

-- A choice that is none: 7, and nothing is written.
pub refused-choice : (c : ℕ) (table lent : List ℕ) → none ≡ reading_of c → outcome_of (Err BadChoice) lent ≡ Answers.translate c table lent
unfolding Answers.translate translate_order outcome answer_of
refused-choice c table lent e = rw (no-reading c (sym e))

-- ---- the room

pub within-twelfth : (n m : ℕ) → leb n (m / record_size) ≡ leb (record_size * n) m
unfolding record_size
within-twelfth n m = leb-same n (m / 12) (12 * n) m (λ h. omega arith) (λ h. omega arith)

-- Where there is room, the size is within the buffer and within 60,000 bytes.
pub room_given : (records room : ℕ) {b : Bool} → b ≡ (leb (record_size * records) room && leb (record_size * records) most_bytes) → b ≡ true
    → record_size * records ≤ room
room_given records room e f = leb-true (record_size * records) room (and_left _ (leb (record_size * records) most_bytes) (sym e ∙ f))

pub size-given : (records room : ℕ) {b : Bool} → b ≡ (leb (record_size * records) room && leb (record_size * records) most_bytes) → b ≡ true
    → record_size * records ≤ most_bytes
size-given records room e f = leb-true (record_size * records) most_bytes (and_right (leb (record_size * records) room) _ (sym e ∙ f))

-- ---- the refusals, in order

-- The first fault stands among the things that are looked at.
one_more : (o : Option Check.Refusal) (own : Option ℕ) (k : ℕ) {r : Check.Refusal} → (o ≡ some r → r.at < k)
    → or_else o (map (λ n. record { number = n; at = k }) own) ≡ some r → r.at < suc k
unfolding or_else
one_more none none k h e = let z : ◌≡◌ {A = ℕ} 0 1 = cc in absurd (omega arith)
one_more none (some n) k {r} h e = let z : record { number = n; at = k } ≡ r = cc in rw (← z) (omega arith)
one_more (some q) own k h e = omega (arith, h e)

first-within : (own : ℕ → Option ℕ) (p k : ℕ) {r : Check.Refusal} → first_fault own p k ≡ some r → r.at < p + k
unfolding first_fault
first-within own p zero e = let z : ◌≡◌ {A = ℕ} 0 1 = cc in absurd (omega arith)
first-within own p (suc k) e = omega (arith, one_more (first_fault own p k) (own k) (p + k) (first-within own p k) e)

-- A node whose interval is beyond the limit is a record of the table.
pub beyond-within : (table : List ℕ) (p : ℕ) → Passed table → refuse 8 p ≡ bounds_fault table → p < 5_000
unfolding bounds_fault node_count
beyond-within table p passed e =
    omega (arith, first-within _ (nodes_at table) (length (rows table)) (sym e), length-rows table, ordered table passed)

module _ (table : List ℕ) (ρ : Reading) (lent : List ℕ) where
  -- the faults of every choice of ρ, in order
  abbrev faults : Option Check.Refusal
  faults = or_else (check_fault table) (or_else (bounds_fault table) (room_fault table ρ (length lent)))

  -- what every choice of ρ gives
  given : Outcome
  given = outcome faults (done 0 (length (translation table ρ)) false) (translation table ρ) lent

  under_choice : {o : Outcome} → o ≡ given → TranslatesUnder ρ table lent o
  unfolding given Answers.translate translation_done
  under_choice e choice under = rw (translate-faults choice ρ under table (length lent), reading_chosen-is choice ρ under) e

  -- A refusal changes no byte.
  refusal : (e : Refusal) → faults ≡ some (number_and_record e) → TranslatesUnder ρ table lent (outcome_of (Err e) lent)
  unfolding given outcome answer_of
  refusal e q = under_choice (rw q)

  -- Without one the new table is written.
  given-none : faults ≡ none → outcome none (done 0 (length (translation table ρ)) false) (translation table ρ) lent ≡ given
  unfolding given
  given-none e = rw e

  -- What the check refuses.
  pub refused-check : (f : Fault) → some (Verdict.number_and_record f) ≡ check_fault table → TranslatesUnder ρ table lent (outcome_of (Err (Unsound f)) lent)
  refused-check f e = refusal (Unsound f) (or_else-some _ (sym e))

  -- 8 comes behind the check.
  pub refused-bounds : (e : Refusal) → check_fault table ≡ none → some (number_and_record e) ≡ bounds_fault table
      → TranslatesUnder ρ table lent (outcome_of (Err e) lent)
  refused-bounds e c b = refusal e (or_else-none c ∙ or_else-some (room_fault table ρ (length lent)) (sym b))

  -- 9 comes last: the room and the greatest size are both asked.
  abbrev fits : ℕ → Bool
  fits records = leb (record_size * records) (length lent) && leb (record_size * records) most_bytes

  module _ (checked : check_fault table ≡ none) (bounded : bounds_fault table ≡ none) where
    fault-is-room : faults ≡ room_fault table ρ (length lent)
    fault-is-room = or_else-none checked ∙ or_else-none bounded

    pub refused-room : (records : ℕ) {b : Bool} → records ≡ new_count table ρ
        → b ≡ (leb (record_size * records) (length lent) && leb (record_size * records) most_bytes) → b ≡ false
        → TranslatesUnder ρ table lent (outcome_of (Err NoRoom) lent)
    unfolding room_fault refuse_unless
    refused-room records c e f =
        refusal NoRoom (fault-is-room ∙ ap (λ (t : Bool). cond t none (refuse 9 0)) (ap fits (sym c) ∙ sym e ∙ f))

    -- And where there is room: the new table from byte 0, and the rest as it was.
    pub written : (records : ℕ) {b : Bool} {after : List ℕ} → records ≡ new_count table ρ
        → b ≡ (leb (record_size * records) (length lent) && leb (record_size * records) most_bytes) → b ≡ true
        → length (translation table ρ) ≡ record_size * new_count table ρ → after ≡ translation table ρ ++ drop (length (translation table ρ)) lent
        → TranslatesUnder ρ table lent (outcome_of (Ok (record_size * records)) after)
    unfolding outcome room_fault refuse_unless answer_of
    written records {after = after} c e f s w =
        under_choice (rw (w, c, ← s) (given-none (fault-is-room ∙ ap (λ (t : Bool). cond t none (refuse 9 0)) (ap fits (sym c) ∙ sym e ∙ f))))
