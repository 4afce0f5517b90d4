-- Number and record of what a check gives are those of its answer.
use mathlib.Core.Path.{◌≡◌, refl}
use Rattle.std.specs.Prelude.{Result, Ok, Err}
use Rattle.answers.specs.Answers.{done, refused}
use Rattle.verdict.specs.declared.Fault.{Fault}
use Rattle.verdict.specs.Results.{number_and_record, number_in, record_in, answer_of}

pub number_of : (c : Result Unit Fault) → number_in number_and_record c ≡ (answer_of c).number
unfolding answer_of done refused
number_of (Ok u) = refl
number_of (Err fault) = refl

pub record_of : (c : Result Unit Fault) → record_in number_and_record c ≡ (answer_of c).at
unfolding answer_of done refused
record_of (Ok u) = refl
record_of (Err fault) = refl
