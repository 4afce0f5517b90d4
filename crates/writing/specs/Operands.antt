-- What an operand of the table of kinds says of a node's x.
-- Internal: a contract behind the public ones; no public promise cites it.
use Rattle.std.specs.Prelude.{Bool, true, false, ℤ, pos, nat_abs}
use Rattle.language.specs.Meaning.{is_one, number}
use Rattle.kinds.specs.declared.Operand.{Operand}
use Rattle.kinds.specs.declared.Operand.TheVariants.{AnyNumber, TruthValue, BooleanArray, IntegerArray}

-- what x stands for by itself: any number, a truth value, or the number that it names
unfoldable pub stands_for : Operand → ℤ → ℤ
stands_for AnyNumber x = x
stands_for TruthValue x = number (is_one x)
stands_for _ x = pos (nat_abs x)

-- x is an array's number
abbrev pub names_array : Operand → Bool
names_array BooleanArray = true
names_array IntegerArray = true
names_array _ = false
