-- Document 01's number, record and length for what the code's translation gives.
use Rattle.std.specs.Prelude.{ℕ, false, List, Result, Ok, Err}
use Rattle.answers.specs.Check as Check
use Rattle.answers.specs.Answers.{Answer, Outcome, refused, done}
use Rattle.verdict.specs.Results as Verdict
use Rattle.verdict.specs.Results.{numbered}
use Rattle.translation.specs.declared.Refusal.{Refusal}
use Rattle.translation.specs.declared.Refusal.TheVariants.{BadChoice, Unsound, Beyond, NoRoom}

-- number and record of a refusal
abbrev pub number_and_record : Refusal → Check.Refusal
number_and_record BadChoice = numbered 7 0
number_and_record (Unsound fault) = Verdict.number_and_record fault
number_and_record (Beyond p) = numbered 8 p
number_and_record NoRoom = numbered 9 0

-- the answer: number, record, steps, "all are 1", length
unfoldable pub answer_of : Result ℕ Refusal → Answer
answer_of (Ok length) = done 0 length false
answer_of (Err refusal) = refused (number_and_record refusal)

-- the answer and the lent bytes after the call
abbrev pub outcome_of : Result ℕ Refusal → List ℕ → Outcome
outcome_of r lent = record { answer = answer_of r; lent = lent }
