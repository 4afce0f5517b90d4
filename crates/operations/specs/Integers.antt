-- Operations on what the walk met, each by the language's own operation on values.
-- Internal: a contract behind the public ones; no public promise cites it.
use Rattle.std.specs.Prelude.{Bool, true, false, ◌&&◌, ℤ, neg_ℤ, Result, Ok, Err}
use Rattle.std.proofs.Math.Option.{Option, none, some, map}
use Rattle.language.specs.Syntax as syntax
use Rattle.language.specs.Readings.{both}
use Rattle.language.specs.Meaning.{number}
use Rattle.operations.specs.declared.values.Walked.{Walked}
use Rattle.operations.specs.declared.integers.Arithmetic.{Arithmetic}
use Rattle.operations.specs.declared.integers.Arithmetic.TheVariants.{Plus, Minus, Times, Minimum, Maximum}
use Rattle.operations.specs.declared.integers.Division.{Division}
use Rattle.operations.specs.declared.integers.Division.TheVariants.{Quotient, Remainder}
use Rattle.operations.specs.declared.integers.Missing.{Missing}
use Rattle.operations.specs.Values.{integer_of, truth_of, limited_to}

abbrev pub arithmetic_of : Arithmetic → syntax.Arithmetic
arithmetic_of Plus = syntax.plus
arithmetic_of Minus = syntax.minus
arithmetic_of Times = syntax.times
arithmetic_of Minimum = syntax.minimum
arithmetic_of Maximum = syntax.maximum

abbrev pub division_of : Division → syntax.Division
division_of Quotient = syntax.quot
division_of Remainder = syntax.rem

-- two integers, or whether two operands of which one is undefined stay within the limit
abbrev pub pair_of : Bool → Option ℤ → Option ℤ → Result (ℤ × ℤ) Missing
pair_of true (some x) (some y) = Ok (x, y)
pair_of true (some x) none = Err (record { within = true })
pair_of true none y = Err (record { within = true })
pair_of false x y = Err (record { within = false })

unfoldable pub operands_of : Walked → Walked → Result (ℤ × ℤ) Missing
operands_of a b = pair_of (a.within && b.within) (integer_of a.value) (integer_of b.value)

-- "an integer operation is undefined if an operand is"
unfoldable pub integers : (ℤ → ℤ → Option ℤ) → Walked → Walked → Walked
integers f a b = limited_to (a.within && b.within) (both f (integer_of a.value) (integer_of b.value))

unfoldable pub negated : Walked → Walked
negated a = limited_to a.within (map neg_ℤ (integer_of a.value))

unfoldable pub numbered : Walked → Walked
numbered a = limited_to a.within (map number (truth_of a.value))
