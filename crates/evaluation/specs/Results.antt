-- Document 01's number, record, steps, "all are 1" and length for what the code's evaluation gives.
use Rattle.std.specs.Prelude.{ℕ, List, Result, Ok, Err}
use Rattle.answers.specs.Check as Check
use Rattle.answers.specs.Answers.{Answer, Outcome, refused, done}
use Rattle.verdict.specs.Results as Verdict
use Rattle.verdict.specs.Results.{numbered}
use Rattle.evaluation.specs.declared.Totals.{Totals}
use Rattle.evaluation.specs.declared.Refusal.{Refusal}
use Rattle.evaluation.specs.declared.Refusal.TheVariants.{BadChoice, Unsound, Unassigned, NoRoom, OverBudget, BeyondLimit}

-- number and record of a refusal
abbrev pub number_and_record : Refusal → Check.Refusal
number_and_record BadChoice = numbered 7 0
number_and_record (Unsound fault) = Verdict.number_and_record fault
number_and_record (Unassigned p) = numbered 10 p
number_and_record NoRoom = numbered 9 0
number_and_record OverBudget = numbered 11 0
number_and_record BeyondLimit = numbered 8 0

-- the answer: number, record, steps, "all are 1", length
unfoldable pub answer_of : Result Totals Refusal → Answer
answer_of (Ok totals) = done totals.steps totals.written totals.all
answer_of (Err refusal) = refused (number_and_record refusal)

-- the answer and the lent bytes after the call
abbrev pub outcome_of : Result Totals Refusal → List ℕ → Outcome
outcome_of r lent = record { answer = answer_of r; lent = lent }
