-- `bounds::slot` meets its contract.
use native.Mathlib.Omega.{arith}
use mathlib.Core.Path.{◌∙◌}
use Rattle.answers.specs.Sections.{slot_count}
use Rattle.layout.proofs.Tables.{laid-in}
use Rattle.bounds.proofs.Declared.{slot-cong, x-field, y-field, slot-of, no-slot}
use Rattle.bounds.proofs.slot.Goals as goal

pub returns-then-n-slot_count : goal.returns-then-n-slot_count
returns-then-n-slot_count c = no-slot c.args.table.now.bytes.now c.args.n (omega (arith, c.slot_count.ensures, c.if-n-slot_count.true))

pub overflow_add-table : goal.overflow_add-table
unfolding slot_count
overflow_add-table c = let l = laid-in c.args.table.now in omega (arith, l, l.order, c.slot_count.ensures, c.if-n-slot_count.false)

pub record_at-slot-requires : goal.record_at-slot-requires
unfolding slot_count
record_at-slot-requires c = let l = laid-in c.args.table.now in omega (arith, l, l.order, c.slot_count.ensures, c.if-n-slot_count.false)

pub returns : goal.returns
returns c = let bs = c.args.table.now.bytes.now in
    let e = c.record_at-slot.ensures in
    slot-cong (x-field bs _ e) (y-field bs _ e) ∙ slot-of bs c.args.n (omega (arith, c.slot_count.ensures, c.if-n-slot_count.false)) (omega (arith, laid-in c.args.table.now))
