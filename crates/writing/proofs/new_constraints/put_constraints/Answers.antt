-- `writing::new_constraints::put_constraints` meets its contract.
use mathlib.Core.Path.{refl, ap, ◌∙◌}
use Prim.Native.Nat.{◌+◌}
use native.Mathlib.Omega.{arith}
use lib.IntN.{nat_abs}
use Rattle.table.specs.declared.Record.{Record}
use Rattle.table.specs.Records.{record_size, x_at}
use Rattle.answers.specs.Sections.{constraint_count}
use Rattle.layout.proofs.Tables.{laid-in}
use Rattle.writing.proofs.ConstraintRecords.{length-constraints, none-put, one-more-put, all-put}
use Rattle.writing.proofs.new_constraints.put_constraints.Goals as goal

pub loop-i-init : goal.loop-i-init
loop-i-init c = let e = c.args in record { so_far = none-put e.table.now.bytes.now e.firsts.now e.from e.out.now; sized = refl }

pub overflow_add-table : goal.overflow_add-table
unfolding constraint_count
overflow_add-table c = let l = laid-in c.args.table.now in omega (arith, l, l.order, c.constraint_count-i-end.ensures)

pub record_at-requires : goal.record_at-requires
unfolding constraint_count
record_at-requires c = let l = laid-in c.args.table.now in omega (arith, l, l.order, c.constraint_count-i-end.ensures)

pub overflow_add-from : goal.overflow_add-from
unfolding record_size constraint_count
overflow_add-from c = let l = laid-in c.args.table.now in omega (arith, l, l.order, c.constraint_count-i-end.ensures, c.requires, length-constraints c.args.table.now.bytes.now, c.well_formed)

pub overflow_mul-from : goal.overflow_mul-from
unfolding record_size constraint_count
overflow_mul-from c = let l = laid-in c.args.table.now in omega (arith, l, l.order, c.constraint_count-i-end.ensures, c.requires, length-constraints c.args.table.now.bytes.now, c.well_formed)

pub put_record-requires : goal.put_record-requires
unfolding record_size constraint_count
put_record-requires c = let l = laid-in c.args.table.now in omega (arith, l, l.order, c.constraint_count-i-end.ensures, c.requires, length-constraints c.args.table.now.bytes.now, c.loop-i.invariant.sized)

pub loop-i-preserved : goal.loop-i-preserved
loop-i-preserved c = let bs = c.args.table.now.bytes.now in
    let i = c.loop-i in
    let l = laid-in c.args.table.now in
    record {
      so_far = one-more-put bs c.args.firsts.now c.args.from c.args.out.now i.i i.invariant.so_far (c.named-node.ensures.x ∙ ap (λ (r : Record). nat_abs r.x) c.record_at.ensures ∙ ap (λ p. nat_abs (x_at bs (p + i.i))) l.constraints) c.kept.ensures c.put_record.ensures;
      sized = c.put_record.auto.out ∙ i.invariant.sized;
    }

pub returns : goal.returns
unfolding constraint_count
returns c = let l = laid-in c.args.table.now in all-put c.args.table.now.bytes.now c.args.firsts.now c.args.from c.args.out.now (omega (arith, l, c.constraint_count-i-end.ensures)) c.loop-i.invariant.so_far
