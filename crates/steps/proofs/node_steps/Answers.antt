-- `steps::node_steps` meets its contract.
use mathlib.Core.Path.{sym, ◌∙◌}
use native.Mathlib.Omega.{arith}
use native.Mathlib.Nat.{mul-le-mul}
use Rattle.answers.specs.Sections.{node_count}
use Rattle.layout.proofs.Tables.{passed-in, laid-in}
use Rattle.std.proofs.Common.{◌≤◌, add_assoc}
use Rattle.steps.specs.Capped.{past_budgets}
use Rattle.steps.proofs.Caps.{capped-low}
use Rattle.steps.proofs.Slots.{few_values}
use Rattle.steps.proofs.Nodes.{node-capped}
use Rattle.steps.proofs.node_steps.Goals as goal

pub overflow_add-table : goal.overflow_add-table
unfolding node_count
overflow_add-table c = let l = laid-in c.args.table.now in omega (arith, l, l.order, c.requires.n_bound)

pub record_at-record-requires : goal.record_at-record-requires
unfolding node_count
record_at-record-requires c = let l = laid-in c.args.table.now in omega (arith, l, l.order, c.requires.n_bound)

pub of-requires : goal.of-requires
of-requires c = rw (c.record_at-record.ensures, (laid-in c.args.table.now).nodes) ((passed-in c.args.table.now).known_kinds c.args.n c.requires.n_bound)

pub overflow_mul-slot_values : goal.overflow_mul-slot_values
overflow_mul-slot_values c =
    let few : c.slot_values.result ≤ 10_000 = rw c.slot_values.ensures (few_values c.args.table.now.bytes.now c.args.table.now.sound _) in
    let small : c.kept-b.result ≤ past_budgets = rw c.kept-b.ensures (c.requires.kept.small _) in
    omega (arith, mul-le-mul few small)

pub overflow_add-slot_values : goal.overflow_add-slot_values
overflow_add-slot_values c =
    let few : c.slot_values.result ≤ 10_000 = rw c.slot_values.ensures (few_values c.args.table.now.bytes.now c.args.table.now.sound _) in
    let small : c.kept-b.result ≤ past_budgets = rw c.kept-b.ensures (c.requires.kept.small _) in
    omega (arith, mul-le-mul few small)

pub returns-in-Leaf : goal.returns-in-Leaf
returns-in-Leaf c =
    sym (capped-low 1 (omega arith))
    ∙ node-capped c.args.table.now c.requires.kept c.requires.n_bound c.record_at-record.ensures c.named-x.ensures.x c.named-x.ensures.y c.kept-a.ensures
    c.kept-b.ensures (c.in-Leaf.ensures {u = tt})

pub returns-in-OfX : goal.returns-in-OfX
returns-in-OfX c =
    c.capped.ensures
    ∙ node-capped c.args.table.now c.requires.kept c.requires.n_bound c.record_at-record.ensures c.named-x.ensures.x c.named-x.ensures.y c.kept-a.ensures
    c.kept-b.ensures (c.in-OfX.ensures {u = tt})

pub returns-in-OfY : goal.returns-in-OfY
returns-in-OfY c =
    c.capped-in-OfY.ensures
    ∙ node-capped c.args.table.now c.requires.kept c.requires.n_bound c.record_at-record.ensures c.named-x.ensures.x c.named-x.ensures.y c.kept-a.ensures
    c.kept-b.ensures (c.in-OfY.ensures {u = tt})

pub returns-in-OfBoth : goal.returns-in-OfBoth
returns-in-OfBoth c =
    (rw add_assoc at c.capped-in-OfBoth.ensures)
    ∙ node-capped c.args.table.now c.requires.kept c.requires.n_bound c.record_at-record.ensures c.named-x.ensures.x c.named-x.ensures.y c.kept-a.ensures
    c.kept-b.ensures (c.in-OfBoth.ensures {u = tt})

pub returns-in-OfRange : goal.returns-in-OfRange
returns-in-OfRange c =
    (rw c.slot_values.ensures at c.capped-in-OfRange.ensures)
    ∙ node-capped c.args.table.now c.requires.kept c.requires.n_bound c.record_at-record.ensures c.named-x.ensures.x c.named-x.ensures.y c.kept-a.ensures
    c.kept-b.ensures (c.in-OfRange.ensures {u = tt})
