-- `bounds::check_bounds` meets its contract.
use Rattle.bounds.proofs.Nodes.{Passing}
use Rattle.bounds.proofs.check_bounds.Given as goal

abbrev pub invariant-loop-n : goal.invariant-loop-n
invariant-loop-n l = Passing l.table.bytes.now l.kept l.n
