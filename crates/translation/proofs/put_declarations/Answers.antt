-- `translation::put_declarations` meets its contract.
use mathlib.Core.Path.{◌≡◌}
use Prim.Native.Nat.{◌*◌}
use native.Mathlib.Omega.{arith}
use Rattle.table.specs.Records.{record_size}
use Rattle.answers.specs.Sections.{nodes_at}
use Rattle.translation.proofs.Copies.{copied_none, copied_more}
use Rattle.translation.proofs.Wholes.{front-place, front-stores}
use Rattle.translation.proofs.put_declarations.Goals as goal

pub overflow_mul-end : goal.overflow_mul-end
overflow_mul-end c = let f = front-place c.args.table.now in omega arith

pub put_record-requires : goal.put_record-requires
unfolding record_size
put_record-requires c = let f = front-place c.args.table.now in omega (arith, c.requires)

pub loop-i-init : goal.loop-i-init
loop-i-init c = copied_none

pub bounds-table-i : goal.bounds-table-i
bounds-table-i c = let f = front-place c.args.table.now in omega arith

pub bounds-out-i : goal.bounds-out-i
unfolding record_size
bounds-out-i c = let f = front-place c.args.table.now in omega (arith, c.requires, c.put_record.auto.out, c.loop-i.auto.out)

pub loop-i-preserved : goal.loop-i-preserved
loop-i-preserved c = let f = front-place c.args.table.now in copied_more c.loop-i.invariant (omega arith) (omega arith)

pub returns : goal.returns
unfolding record_size
returns c =
    let f = front-place c.args.table.now in
    let end : c.loop-i.i ≡ 12 * nodes_at c.args.table.now.bytes.now = omega (arith, f.nodes) in
    front-stores _ c.args.records c.args.out.now c.put_record.ensures (rw end at c.loop-i.invariant.stored)
