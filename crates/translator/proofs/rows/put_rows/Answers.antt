-- `translator::rows::put_rows` meets its contract.
use mathlib.Core.Path.{refl, ◌∙◌}
use native.Mathlib.Omega.{arith}
use Rattle.table.specs.Records.{record_size}
use Rattle.translator.specs.Cells.{cells_bytes}
use Rattle.translator.proofs.Cells.{rows_more}
use Rattle.translator.proofs.rows.put_rows.Goals as goal

pub loop-j-init : goal.loop-j-init
unfolding cells_bytes
loop-j-init c = record { so_far = refl; sized = refl }

pub overflow_add-at : goal.overflow_add-at
unfolding record_size
overflow_add-at c = omega (arith, c.requires, c.well_formed, c.loop-j.invariant.sized)

pub put_record-requires : goal.put_record-requires
unfolding record_size
put_record-requires c = omega (arith, c.requires, c.loop-j.invariant.sized)

pub loop-j-preserved : goal.loop-j-preserved
loop-j-preserved c = let e = c.args in
    let n = e.node.now in
    let l = c.loop-j in
    record {
      so_far = rows_more n.words n.base n.kind e.out.now e.rows.now _ e.at l.j c.loop-j-test.true l.invariant.so_far c.put_record.ensures c.unwrap_or.ensures c.number.ensures c.number-in-loop-j.ensures;
      sized = c.put_record.auto.out ∙ l.invariant.sized;
    }
