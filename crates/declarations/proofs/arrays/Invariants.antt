-- `declarations::arrays` meets its contract: the arrays passed have no fault.
use Prim.Native.Nat.{◌-◌}
use Rattle.declarations.proofs.ArrayWalk.{Passed}
use Rattle.declarations.proofs.arrays.Given as goal

abbrev pub invariant-loop-p : goal.invariant-loop-p
invariant-loop-p l = Passed l.table l.from l.j l.p

abbrev pub decreases-loop-p : goal.decreases-loop-p
decreases-loop-p l = l.n - l.p
