-- What a walk gives back, over the language's values: an integer node's value is an `Option ℤ`, a Boolean node's an `Option Bool`.
-- Past the limit no value is handed on: number 8 refuses, whatever it would be.
-- Internal: a contract behind the public ones; no public promise cites it.
use Rattle.std.specs.Prelude.{Bool, true, false, ◌&&◌, ℤ}
use Rattle.std.specs.Prelude as code
use Rattle.std.proofs.Math.Option.{Option, none, some}
use Rattle.language.specs.Meaning.{value_within}
use Rattle.operations.specs.declared.values.Value.{Value}
use Rattle.operations.specs.declared.values.Value.TheVariants.{Integer, Truth, Undefined}
use Rattle.operations.specs.declared.values.Walked.{Walked}

-- an option of the code's, as the definitions have it
abbrev pub optional : {A : Type 0} → code.Option A → Option A
optional (code.Some x) = some x
optional code.None = none

-- a value as the code has it
abbrev pub of_integer : Option ℤ → Value
of_integer (some z) = Integer z
of_integer none = Undefined

abbrev pub of_truth : Option Bool → Value
of_truth (some b) = Truth b
of_truth none = Undefined

-- and back; a value of the other type is met in no sound table
abbrev pub integer_of : Value → Option ℤ
integer_of (Integer z) = some z
integer_of (Truth b) = none
integer_of Undefined = none

abbrev pub truth_of : Value → Option Bool
truth_of (Integer z) = none
truth_of (Truth b) = some b
truth_of Undefined = none

-- the value of a walk that stayed within the limit, or else none
abbrev pub of_walk : Bool → Value → Walked
of_walk true v = record { value = v; within = true }
of_walk false v = record { value = Undefined; within = false }

-- an integer node's value: the walk stays within the limit where it did so below and the value does
unfoldable pub limited_to : Bool → Option ℤ → Walked
limited_to c v = of_walk (c && value_within v) (of_integer v)

-- a Boolean node's value
unfoldable pub truth_to : Bool → Option Bool → Walked
truth_to c v = of_walk c (of_truth v)
