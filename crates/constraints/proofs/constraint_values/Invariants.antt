-- `constraints::constraint_values` meets its contract.
use Rattle.reading.specs.Readings.{meant}
use Rattle.constraints.proofs.Walking.{Walked-so-far}
use Rattle.constraints.proofs.constraint_values.Given as goal

abbrev pub invariant-loop-i : goal.invariant-loop-i
invariant-loop-i l = Walked-so-far l.table.checked.bytes.now (meant l.reading) l.assignment l.bytes l.all l.i
