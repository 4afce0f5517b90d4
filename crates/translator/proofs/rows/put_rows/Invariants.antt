-- `translator::rows::put_rows` meets its contract.
use mathlib.Core.Path.{◌≡◌}
use lib.ListN.{length, take}
use lib.Seq.{sets}
use Rattle.translator.proofs.Cells.{written}
use Rattle.translator.proofs.rows.put_rows.Given as goal

abbrev pub invariant-loop-j : goal.invariant-loop-j
invariant-loop-j l = record {
  so_far : l.out ≡ sets l.initial.out l.at (written l.node.words l.node.base l.node.kind (take l.j l.rows));
  sized : length l.out ≡ length l.initial.out;
}
