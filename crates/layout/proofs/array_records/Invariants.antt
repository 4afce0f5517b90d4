-- `layout::array_records` meets its contract.
use Rattle.layout.proofs.Walked.{Placed}
use Rattle.layout.proofs.array_records.Given as goal

abbrev pub invariant-loop-n : goal.invariant-loop-n
invariant-loop-n l = Placed l.s l.records l.n l.p
