-- `steps::constraint_steps` meets its contract.
use mathlib.Core.Path.{◌≡◌, ◌∙◌}
use Prim.Native.Nat.{◌+◌, ◌-◌, ◌≤◌}
use native.Mathlib.Omega.{arith}
use Rattle.answers.specs.Sections.{constraints_at, constraint_count}
use Rattle.layout.proofs.Tables.{laid-in}
use Rattle.steps.specs.Capped.{past_budgets}
use Rattle.steps.proofs.Caps.{capped-≤}
use Rattle.steps.proofs.Constraints.{total-none, total-more, total-all}
use Rattle.steps.proofs.constraint_steps.Goals as goal

pub loop-p-init : goal.loop-p-init
loop-p-init c =
    let l = laid-in c.args.table.now in
    let none_yet : c.args.table.now.at.constraints - constraints_at c.args.table.now.bytes.now ≡ 0 = omega (arith, l) in
    rw none_yet (total-none c.args.table.now.bytes.now)

pub record_at-requires : goal.record_at-requires
record_at-requires c = let l = laid-in c.args.table.now in omega (arith, l, l.order)

pub overflow_add-total : goal.overflow_add-total
overflow_add-total c =
    let total : c.loop-p.total ≤ past_budgets = rw c.loop-p.invariant (capped-≤ _) in
    let one : c.kept.result ≤ past_budgets = rw c.kept.ensures (c.requires.small _) in
    omega arith

pub loop-p-preserved : goal.loop-p-preserved
unfolding constraint_count
loop-p-preserved c =
    let bs = c.args.table.now.bytes.now in
    let l = laid-in c.args.table.now in
    let first = constraints_at bs in
    let one_more : c.loop-p.p + 1 - first ≡ c.loop-p.p - first + 1 = omega (arith, l) in
    rw one_more
    (total-more bs c.args.table.now.sound c.requires (c.loop-p.p - first) (omega (arith, l)) (omega (arith, l)) c.loop-p.invariant
    (rw (c.named-root.ensures.x, c.record_at.ensures) at c.kept.ensures) c.capped-total.ensures)

pub returns : goal.returns
unfolding constraint_count
returns c =
    let bs = c.args.table.now.bytes.now in
    let l = laid-in c.args.table.now in
    c.loop-p.invariant ∙ total-all bs (c.loop-p.p - constraints_at bs) (omega (arith, l, l.order))
