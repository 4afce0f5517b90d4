-- `writing::put_nodes_and_constraints` meets its contract.
use Rattle.reading.specs.Readings.{meant}
use Rattle.writing.proofs.Standing.{Standing}
use Rattle.writing.proofs.put_nodes_and_constraints.Given as goal

abbrev pub invariant-loop-n : goal.invariant-loop-n
invariant-loop-n l = Standing l.table.bytes.now (meant l.reading) l.initial.out l.out l.positions.firsts l.positions.seconds l.next l.n
