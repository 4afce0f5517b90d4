-- `evaluator::places::Walk::record_at` meets its contract.
use native.Mathlib.Omega.{arith}
use Rattle.table.specs.Records.{record_size, record_count}
use Rattle.evaluator.proofs.places.Walk.record_at.Goals as goal

pub record_at-requires : goal.record_at-requires
unfolding record_size record_count
record_at-requires c = omega (arith, c.args.self.now.laid.sized)
