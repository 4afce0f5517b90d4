-- `intervals::IntervalMul::mul` meets its contract.
use Rattle.std.proofs.Common.{rules}
use Rattle.rules.specs.Bounds.{arith_interval, products}
use Rattle.intervals.proofs.IntervalMul.mul.Goals as goal

pub returns : goal.returns
unfolding arith_interval products
returns c = search rules
