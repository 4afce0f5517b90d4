-- `writing::words::own_word` meets its contract.
use mathlib.Core.Path.{ap, ◌∙◌}
use lib.IntN.{nat_abs}
use mir.Syntax.{w32}
use mir.Val.{of_z}
use mir.Facts.{to_z-of_z}
use Rattle.table.specs.Records.{bits_of}
use Rattle.writing.specs.Operands.{stands_for}
use Rattle.writing.proofs.Operands.{machine-bits, truth-bits, other-stands}
use Rattle.writing.proofs.words.own_word.Goals as goal

pub returns-in-AnyNumber : goal.returns-in-AnyNumber
unfolding stands_for
returns-in-AnyNumber c = rw c.in-AnyNumber.is (c.cast_unsigned.ensures ∙ ap (of_z w32) (to_z-of_z {w = w32} c.ranges.x) ∙ machine-bits c.args.x)

pub returns-in-TruthValue : goal.returns-in-TruthValue
unfolding stands_for
returns-in-TruthValue c = rw c.in-TruthValue.is (c.from.ensures ∙ truth-bits c.args.x c.ranges.x)

pub returns-in_default : goal.returns-in_default
unfolding bits_of
returns-in_default c = rw (other-stands c.args.operand c.args.x c.in_default.not-AnyNumber c.in_default.not-TruthValue) (c.unsigned_abs.ensures.value ∙ ap nat_abs (to_z-of_z {w = w32} c.ranges.x))
