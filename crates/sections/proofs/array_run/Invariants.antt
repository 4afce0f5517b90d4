-- `sections::array_run` meets its contract: the walk goes from array to array until it stops.
use Prim.Native.Nat.{◌-◌}
use Rattle.sections.proofs.Walks.{Arrays}
use Rattle.sections.proofs.array_run.Given as goal

abbrev pub invariant-loop-p : goal.invariant-loop-p
invariant-loop-p l = Arrays l.table l.from l.p l.count

abbrev pub decreases-loop-p : goal.decreases-loop-p
decreases-loop-p l = l.n - l.p
