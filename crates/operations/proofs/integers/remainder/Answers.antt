-- `operations::integers::remainder` meets its contract: it is the machine's remainder, of 64 bits.
use lib.Signed.{quot_z, rem_z}
use mir.Facts.{to_z-of_z}
use Rattle.numbers.specs.Whole as whole
use Rattle.numbers.proofs.Widths.{widens, result_fits, result_arrives, quotient_fits, rem-fits, divisor-bits}
use Rattle.operations.proofs.integers.remainder.Goals as goal

pub nonzero_rem-result : goal.nonzero_rem-result
nonzero_rem-result c =
    let s = c.args in
    rw (c.from.ensures, c.from-2.ensures)
    (rw (to_z-of_z c.ranges.y) (divisor-bits s.y c.ranges.y c.requires), result_fits quot_z s.x s.y c.ranges.x c.ranges.y (quotient_fits s.x s.y c.ranges.x))

pub returns : goal.returns
unfolding whole.remainder
returns c =
    let s = c.args in
    rw (c.from.ensures, c.from-2.ensures) (result_arrives rem_z s.x s.y c.ranges.x c.ranges.y (widens (rem_z s.x s.y) (rem-fits s.x s.y c.ranges.x)))
