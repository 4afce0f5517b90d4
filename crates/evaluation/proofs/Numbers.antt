-- Number and record of what an evaluation gives are those of its answer.
use mathlib.Core.Path.{◌≡◌, refl}
use Rattle.std.specs.Prelude.{Result, Ok, Err}
use Rattle.answers.specs.Answers.{done, refused}
use Rattle.verdict.specs.Results.{number_in, record_in}
use Rattle.evaluation.specs.declared.Refusal.{Refusal}
use Rattle.evaluation.specs.declared.Totals.{Totals}
use Rattle.evaluation.specs.Results.{number_and_record, answer_of}

pub number_of : (r : Result Totals Refusal) → number_in number_and_record r ≡ (answer_of r).number
unfolding answer_of done refused
number_of (Ok totals) = refl
number_of (Err refusal) = refl

pub record_of : (r : Result Totals Refusal) → record_in number_and_record r ≡ (answer_of r).at
unfolding answer_of done refused
record_of (Ok totals) = refl
record_of (Err refusal) = refl
