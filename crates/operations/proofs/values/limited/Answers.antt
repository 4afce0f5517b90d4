-- `operations::values::limited` meets its contract: its test is the limit's.
use mathlib.Core.Path.{◌≡◌, ◌∙◌}
use mathlib.Core.Bool.{true}
use lib.IntN.{nat_abs}
use mir.Facts.{to_z-of_z}
use borrow.Author.Tests.{le-leb, lt-leb}
use Rattle.numbers.specs.Limits.{limit}
use Rattle.numbers.specs.Whole.{within_limit}
use Rattle.numbers.proofs.Widths.{limit-fits}
use Rattle.operations.proofs.Walks.{kept, dropped}
use Rattle.operations.proofs.values.limited.Goals as goal

pub returns-then-unsigned_abs-le-LIMIT : goal.returns-then-unsigned_abs-le-LIMIT
unfolding within_limit
returns-then-unsigned_abs-le-LIMIT c =
    let x = c.args.x in
    let e = rw (to_z-of_z c.ranges.x) at c.unsigned_abs.ensures.value in
    let w : within_limit x ≡ true = le-leb (nat_abs x) limit (rw e at c.if-unsigned_abs-le-LIMIT.true) in
    c.of_walk.ensures ∙ rw (to_z-of_z c.ranges.x, to_z-of_z (limit-fits x w)) (kept c.args.within x w)

pub returns-else-unsigned_abs-le-LIMIT : goal.returns-else-unsigned_abs-le-LIMIT
unfolding within_limit
returns-else-unsigned_abs-le-LIMIT c =
    let x = c.args.x in
    let e = rw (to_z-of_z c.ranges.x) at c.unsigned_abs.ensures.value in
    c.undefined.ensures ∙ dropped c.args.within x (lt-leb (nat_abs x) limit (rw e at c.if-unsigned_abs-le-LIMIT.false))
