-- `steps::slot_values` meets its contract.
use mathlib.Core.Path.{ap}
use Prim.Native.Nat.{◌+◌}
use native.Mathlib.Omega.{arith}
use mir.Syntax.{w32}
use mir.Val.{SFits}
use mir.Facts.{to_z-of_z}
use borrow.Author.Rules.{rules}
use Rattle.answers.specs.Sections.{slot_count}
use Rattle.layout.proofs.Tables.{laid-in}
use Rattle.steps.proofs.Slots.{slot-values, no-slot}
use Rattle.steps.proofs.slot_values.Goals as goal

pub overflow_add-table : goal.overflow_add-table
unfolding slot_count
overflow_add-table c = let l = laid-in c.args.table.now in omega (arith, l, l.order)

pub record_at-slot-requires : goal.record_at-slot-requires
unfolding slot_count
record_at-slot-requires c = let l = laid-in c.args.table.now in omega (arith, l, l.order)

pub returns-then-n-slot_count : goal.returns-then-n-slot_count
returns-then-n-slot_count c =
    let r = c.record_at-slot.result in
    let p : SFits w32 r.x = search rules in
    let q : SFits w32 r.y = search rules in
    slot-values c.args.table.now.bytes.now c.args.n (omega arith) (ap (λ k. k + c.args.n) (laid-in c.args.table.now).slots) c.record_at-slot.ensures
    (rw (to_z-of_z p, to_z-of_z q) at c.values_between.ensures)

pub returns-else-n-slot_count : goal.returns-else-n-slot_count
returns-else-n-slot_count c = no-slot c.args.table.now.bytes.now c.args.n (omega arith)
