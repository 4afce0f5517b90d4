-- `steps::total_steps` meets its contract.
use Rattle.steps.specs.Kept.{Kept}
use Rattle.steps.proofs.total_steps.Given as goal

abbrev pub invariant-loop-n : goal.invariant-loop-n
invariant-loop-n l = Kept l.table.bytes.now l.n l.costs
