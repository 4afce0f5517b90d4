-- `translator::new_records` meets its contract.
use mathlib.Core.Path.{◌≡◌}
use Prim.Native.Nat.{◌+◌, ◌-◌, ◌*◌, ◌≤◌}
use lib.ListN.{length}
use Rattle.reading.specs.Readings.{meant}
use Rattle.translator.proofs.States.{state}
use Rattle.translator.proofs.new_records.Given as goal

abbrev pub invariant-loop-p : goal.invariant-loop-p
invariant-loop-p l = record {
  total_is : l.total ≡ l.initial.total + length (state l.table.bytes.now (meant l.reading) (l.p - l.table.at.nodes)).rows;
  few : l.total ≤ l.initial.total + 256 * (l.p - l.table.at.nodes);
}
