-- `intervals::IntervalSub::sub` meets its contract.
use Rattle.std.proofs.Common.{rules}
use Rattle.rules.specs.Bounds.{arith_interval}
use Rattle.intervals.proofs.IntervalSub.sub.Goals as goal

pub returns : goal.returns
unfolding arith_interval
returns c = search rules
