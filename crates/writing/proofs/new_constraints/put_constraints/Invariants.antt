-- `writing::new_constraints::put_constraints` meets its contract.
use mathlib.Core.Path.{◌≡◌}
use Prim.Native.Nat.{◌*◌}
use lib.ListN.{length}
use lib.Seq.{sets}
use Rattle.table.specs.Records.{record_size}
use Rattle.writing.proofs.ConstraintRecords.{records_of}
use Rattle.writing.proofs.new_constraints.put_constraints.Given as goal

abbrev pub invariant-loop-i : goal.invariant-loop-i
invariant-loop-i l = record {
  so_far : l.out ≡ sets l.initial.out (record_size * l.from) (records_of l.table.bytes.now l.firsts l.from l.i);
  sized : length l.out ≡ length l.initial.out;
}
