-- Document 01's number and record for each case of the code's `Fault`, and the answer of a check.
use Rattle.std.specs.Prelude.{ℕ, false, Result, Ok, Err}
use Rattle.std.proofs.Math.Option.{Option, none, some, map}
use Rattle.answers.specs.Check.{Refusal}
use Rattle.answers.specs.Answers.{Answer, refused, done}
use Rattle.verdict.specs.declared.Fault.{Fault}
use Rattle.verdict.specs.declared.Fault.TheVariants.{BadLength, Misplaced, NotAllowed, NamesNothing, WrongType, OpenConstraint}

abbrev pub numbered : ℕ → ℕ → Refusal
numbered n k = record { number = n; at = k }

-- a fault number at its record
abbrev pub fault_at : ℕ → Option ℕ → Option Refusal
fault_at p own = map (λ n. numbered n p) own

-- number and record of a fault
abbrev pub number_and_record : Fault → Refusal
number_and_record BadLength = numbered 1 0
number_and_record (Misplaced k) = numbered 2 k
number_and_record (NotAllowed k) = numbered 3 k
number_and_record (NamesNothing k) = numbered 4 k
number_and_record (WrongType k) = numbered 5 k
number_and_record (OpenConstraint k) = numbered 6 k

-- what a call is refused with, if it is, where `told` has number and record of each error
abbrev pub refusal_in : {T E : Type 0} → (E → Refusal) → Result T E → Option Refusal
refusal_in told (Ok x) = none
refusal_in told (Err e) = some (told e)

abbrev pub number_in : {T E : Type 0} → (E → Refusal) → Result T E → ℕ
number_in told (Ok x) = 0
number_in told (Err e) = (told e).number

abbrev pub record_in : {T E : Type 0} → (E → Refusal) → Result T E → ℕ
record_in told (Ok x) = 0
record_in told (Err e) = (told e).at

abbrev pub refusal_of : Result Unit Fault → Option Refusal
refusal_of c = refusal_in number_and_record c

-- the answer: number, record, steps, "all are 1", length
unfoldable pub answer_of : Result Unit Fault → Answer
answer_of c = elim (refusal_of c) [ none ↦ done 0 0 false | some r ↦ refused r ]
