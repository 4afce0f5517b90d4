-- `constraints::constraint_values` meets its contract.
use mathlib.Core.Path.{ap}
use Prim.Native.Nat.{◌+◌}
use native.Mathlib.Omega.{arith}
use borrow.Author.Tests.{not-true, not-false}
use Rattle.answers.specs.Sections.{constraint_count}
use Rattle.layout.proofs.Tables.{laid-in}
use Rattle.constraints.proofs.Walking.{few-constraints, walked_none, walked_more, walked_beyond, walked_all}
use Rattle.constraints.proofs.constraint_values.Goals as goal

pub loop-i-init : goal.loop-i-init
loop-i-init c = walked_none _ _ _

pub overflow_add-first : goal.overflow_add-first
unfolding constraint_count
overflow_add-first c = let l = laid-in c.args.table.now.checked in record { fits = omega (arith, l.constraints, l.order.rest, l.order.few, c.constraint_count-i-end.ensures) }

pub constraint_value-walked-requires : goal.constraint_value-walked-requires
unfolding constraint_count
constraint_value-walked-requires c = let l = laid-in c.args.table.now.checked in record { from = omega (arith, l.constraints); before = omega (arith, l.constraints, c.constraint_count-i-end.ensures) }

pub returns-then-not-walked : goal.returns-then-not-walked
returns-then-not-walked c = let l = laid-in c.args.table.now.checked in
    walked_beyond _ _ _ (omega (arith, c.constraint_count-i-end.ensures)) (ap (λ k. k + c.loop-i.i) l.constraints) c.constraint_value-walked.ensures (not-true _ c.if-not-walked.true)

pub bounds-bytes-i : goal.bounds-bytes-i
bounds-bytes-i c = omega (arith, c.constraint_count-i-end.ensures, few-constraints _ c.args.table.now.checked.sound)

pub loop-i-preserved : goal.loop-i-preserved
loop-i-preserved c = let l = laid-in c.args.table.now.checked in
    walked_more _ _ _ c.loop-i.invariant (omega (arith, c.constraint_count-i-end.ensures, few-constraints _ c.args.table.now.checked.sound)) (ap (λ k. k + c.loop-i.i) l.constraints) c.constraint_value-walked.ensures (not-false _ c.if-not-walked.false) c.verdict_byte-byte.ensures

pub returns : goal.returns
returns c = walked_all _ _ _ c.loop-i.invariant (omega (arith, c.constraint_count-i-end.ensures))
