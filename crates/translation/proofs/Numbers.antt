-- Number and record of what a translation gives are those of its answer.
use mathlib.Core.Path.{◌≡◌, refl}
use Prim.Native.Nat.{ℕ, ◌<◌}
use native.Mathlib.Omega.{arith}
use Rattle.std.specs.Prelude.{Result, Ok, Err}
use Rattle.std.specs.Result.{result_unwrap_or}
use Rattle.answers.specs.Answers.{done, refused}
use Rattle.verdict.specs.Results.{number_in, record_in}
use Rattle.verdict.specs.declared.Fault.TheVariants.{BadLength, Misplaced, NotAllowed, NamesNothing, WrongType, OpenConstraint}
use Rattle.translation.specs.declared.Refusal.{Refusal}
use Rattle.translation.specs.declared.Refusal.TheVariants.{BadChoice, Unsound, Beyond, NoRoom}
use Rattle.translation.specs.Results.{number_and_record, answer_of}

pub number_of : (r : Result ℕ Refusal) → number_in number_and_record r ≡ (answer_of r).number
unfolding answer_of done refused
number_of (Ok length) = refl
number_of (Err refusal) = refl

pub record_of : (r : Result ℕ Refusal) → record_in number_and_record r ≡ (answer_of r).at
unfolding answer_of done refused
record_of (Ok length) = refl
record_of (Err refusal) = refl

-- A refusal's number is not 0.
pub refusal-above : (e : Refusal) → 0 < (number_and_record e).number
refusal-above BadChoice = omega arith
refusal-above (Unsound BadLength) = omega arith
refusal-above (Unsound (Misplaced k)) = omega arith
refusal-above (Unsound (NotAllowed k)) = omega arith
refusal-above (Unsound (NamesNothing k)) = omega arith
refusal-above (Unsound (WrongType k)) = omega arith
refusal-above (Unsound (OpenConstraint k)) = omega arith
refusal-above (Beyond p) = omega arith
refusal-above NoRoom = omega arith

-- How many bytes are written, or 0.
pub unwrapped : (r : Result ℕ Refusal) → result_unwrap_or r 0 ≡ (answer_of r).length_written
unfolding answer_of done refused
unwrapped (Ok length) = refl
unwrapped (Err refusal) = refl
