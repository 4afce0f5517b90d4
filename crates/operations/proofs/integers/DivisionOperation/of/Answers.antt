-- `operations::integers::DivisionOperation::of` meets its contract where the divisor is not 0: the part's own, both numbers handed on through their bits.
use mathlib.Core.Path.{◌≡◌}
use mathlib.Core.Bool.{false}
use lib.IntN.{pos}
use mir.Syntax.{w64}
use mir.Facts.{to_z-of_z}
use borrow.Author.Rules.{sfits_of}
use Rattle.numbers.specs.Whole.{eq_z}
use Rattle.numbers.proofs.Widths.{nonzero_bits}
use Rattle.language.specs.Readings.{division, part}
use Rattle.operations.proofs.integers.DivisionOperation.of.Goals as goal

pub returns-in-Quotient : goal.returns-in-Quotient
unfolding division part
returns-in-Quotient c =
    let s = c.args in
    let e : eq_z s.y (pos 0) ≡ false = nonzero_bits s.y c.ranges.y c.if-y-eq0.false in
    rw (e, c.in-Quotient.is, to_z-of_z {w = w64} (sfits_of c.quotient.type_inv), c.quotient.ensures, to_z-of_z c.ranges.x, to_z-of_z c.ranges.y)

pub returns-in-Remainder : goal.returns-in-Remainder
unfolding division part
returns-in-Remainder c =
    let s = c.args in
    let e : eq_z s.y (pos 0) ≡ false = nonzero_bits s.y c.ranges.y c.if-y-eq0.false in
    rw (e, c.in-Remainder.is, to_z-of_z {w = w64} (sfits_of c.remainder.type_inv), c.remainder.ensures, to_z-of_z c.ranges.x, to_z-of_z c.ranges.y)
