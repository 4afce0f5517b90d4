-- `sections::run_end` meets its contract: the walk stands in the run until it stops.
use Prim.Native.Nat.{◌≤◌, max}
use Rattle.table.specs.Marks.{mark_of}
use Rattle.sections.proofs.Walks.{Run}
use Rattle.sections.proofs.run_end.Given as goal

abbrev pub invariant-loop-p : goal.invariant-loop-p
invariant-loop-p l = record { run : Run l.table (mark_of l.m) l.from l.p; within : l.p ≤ max l.from l.n }
