-- The answer to what a call gives, where `told` has number and record of each refusal.
-- Internal: a contract behind the public ones; no public promise cites it.
use Rattle.std.specs.Prelude.{Result, Ok, Err}
use Rattle.answers.specs.Check.{Refusal}
use Rattle.answers.specs.Answers.{Answer, refused, done}
use Rattle.evaluation.specs.declared.Totals.{Totals}

abbrev pub answer_in : {E : Type 0} → (E → Refusal) → Result Totals E → Answer
answer_in told (Ok totals) = done totals.steps totals.written totals.all
answer_in told (Err refusal) = refused (told refusal)
