-- The whole check: what an allowed length tells, and how the sections' faults make the answer.
use mathlib.Core.Path.{◌≡◌, refl, sym, ap, ◌∙◌}
use mathlib.Core.Bool.{Bool, true, false, cond, ◌&&◌}
use mathlib.Core.List.{List}
use mathlib.Core.Option.{Option, none, some, or_else}
use Prim.Native.Nat.{ℕ, ◌%◌, ◌≤◌, ◌<◌}
use native.Mathlib.Omega.{arith}
use borrow.Author.Tests.{leb-true, eqb-true, lt-ltb, le-ltb}
use lib.Dec.{eqb, leb}
use lib.ListN.{length}
use Rattle.std.specs.Prelude.{Result}
use Rattle.numbers.specs.Limits.{most_bytes}
use Rattle.numbers.proofs.Tests.{and_left, and_right}
use Rattle.table.specs.Records.{record_size, record_count}
use Rattle.answers.specs.Sections.{rest_at}
use Rattle.answers.specs.Check.{Refusal, refuse, length_allowed, length_fault, rest_fault, first, check_order, check_fault}
use Rattle.answers.specs.Answers as Answers
use Rattle.answers.proofs.Faults.{or_else-none, or_else-some, or_else-none-right}
use Rattle.nodes.specs.Known.{body_fault}
use Rattle.verdict.specs.declared.Fault.{Fault}
use Rattle.verdict.specs.Results.{refusal_of, answer_of}
use Rattle.checker.specs.Chain.{records_fault}

-- ---- an allowed length

module _ (bs : List ℕ) (e : length_allowed bs ≡ true) where
  tests : (leb record_size (length bs) && leb (length bs) most_bytes && eqb (length bs % record_size) 0) ≡ true
  unfolding length_allowed
  tests = e

  long : record_size ≤ length bs
  long = leb-true record_size (length bs) (and_left _ (leb (length bs) most_bytes) (and_left _ (eqb (length bs % record_size) 0) tests))

  short : length bs ≤ most_bytes
  short = leb-true (length bs) most_bytes (and_right (leb record_size (length bs)) _ (and_left _ (eqb (length bs % record_size) 0) tests))

  pub whole_records : length bs % record_size ≡ 0
  whole_records = eqb-true (length bs % record_size) 0 (and_right (leb record_size (length bs) && leb (length bs) most_bytes) _ tests)

  pub few_records : record_count bs ≤ 5_000
  unfolding record_count record_size
  few_records = omega (arith, short)

  pub some_record : 0 < record_count bs
  unfolding record_count record_size
  some_record = omega (arith, long)

-- ---- the chain

-- a section without a fault, and what comes behind it
pub after : {o rest r : Option Refusal} → o ≡ none → r ≡ rest → r ≡ or_else o rest
after e f = f ∙ sym (or_else-none e)

or_else-assoc : (a b c : Option Refusal) → or_else (or_else a b) c ≡ or_else a (or_else b c)
unfolding or_else
or_else-assoc none b c = refl
or_else-assoc (some r) b c = refl

-- all records have a place
pub none_left : (bs : List ℕ) {rest : ℕ} → rest ≡ rest_at bs → record_count bs ≤ rest → none ≡ rest_fault bs
unfolding rest_fault
none_left bs e h = rw (← e, le-ltb _ (record_count bs) h)

-- a record that no section takes
pub one_left : (bs : List ℕ) {rest : ℕ} → rest ≡ rest_at bs → rest < record_count bs → refuse 2 rest ≡ rest_fault bs
unfolding rest_fault
one_left bs e h = rw (← e, lt-ltb _ (record_count bs) h)

-- ---- the answer

answered : (bs : List ℕ) (c : Result Unit Fault) → refusal_of c ≡ check_fault bs → answer_of c ≡ Answers.check bs
unfolding answer_of Answers.check
answered bs c e = rw (e, answer_of, Answers.check)

pub sound-length : (bs : List ℕ) (c : Result Unit Fault) → length_allowed bs ≡ true → refusal_of c ≡ records_fault bs → answer_of c ≡ Answers.check bs
unfolding check_fault check_order first length_fault records_fault body_fault
sound-length bs c l e = answered bs c (after (ap (λ (b : Bool). cond b none (refuse 1 0)) l) (rw (or_else-none-right (rest_fault bs)) (rw or_else-assoc at e)))

pub bad_length : (bs : List ℕ) (c : Result Unit Fault) → length_allowed bs ≡ false → refusal_of c ≡ refuse 1 0 → answer_of c ≡ Answers.check bs
unfolding check_fault check_order first length_fault
bad_length bs c l e = answered bs c (e ∙ sym (or_else-some _ (ap (λ (b : Bool). cond b none (refuse 1 0)) l)))
