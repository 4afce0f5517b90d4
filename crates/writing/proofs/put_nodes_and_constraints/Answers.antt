-- `writing::put_nodes_and_constraints` meets its contract.
use mathlib.Core.Path.{◌≡◌, refl, ap, ◌∙◌}
use Prim.Native.Nat.{◌+◌, ◌*◌}
use native.Mathlib.Omega.{arith}
use lib.ListN.{length}
use Rattle.table.specs.Records.{record_size, kind_at}
use Rattle.answers.specs.Sections.{nodes_at, node_count}
use Rattle.layout.proofs.Tables.{laid-in}
use Rattle.translator.specs.declared.plans.Plan.{Plan}
use Rattle.translator.specs.Cells.{number_of, place}
use Rattle.translator.specs.Plans.{plan_at, rows_of, plan_rows}
use Rattle.translator.proofs.Planned.{rows_fit, length-plan_rows}
use Rattle.reading.specs.Readings.{meant}
use Rattle.writing.proofs.Standing.{standing-none, standing-more, standing-all}
use Rattle.writing.proofs.Turns.{Turn, turn, constraints-fit, next_small}
use Rattle.writing.proofs.put_nodes_and_constraints.Goals.{In-loop-n, After-node-node, After-plan_of-plan, After-loop-n}
use Rattle.writing.proofs.put_nodes_and_constraints.Goals as goal

-- what a turn knows
node-turn : (c : In-loop-n) → Turn c.args.table.now.bytes.now (meant c.args.reading) (length c.args.out.now) c.args.table.now.at.nodes c.loop-n.next c.loop-n.n
node-turn c = turn c.args.table.now (meant c.args.reading) c.requires.in_bounds c.requires.within_limit c.loop-n.invariant (omega (arith, c.loop-n-test.true, c.node_count-n-end.ensures))

-- the node's kind, and its plan
node-kind : (c : After-node-node) → c.node-node.result.kind ≡ kind_at c.args.table.now.bytes.now (nodes_at c.args.table.now.bytes.now + c.loop-n.n)
node-kind c = rw c.new-nodes.ensures at c.node-node.ensures.kind

node-plan : (c : After-plan_of-plan) → c.plan_of-plan.result ≡ plan_at (meant c.args.reading) (kind_at c.args.table.now.bytes.now (nodes_at c.args.table.now.bytes.now + c.loop-n.n))
node-plan c = let kind = rw c.new-nodes.ensures at c.node-node.ensures.kind in c.plan_of-plan.ensures ∙ ap (plan_at (meant c.args.reading)) kind

-- all nodes are written
all-nodes : (c : After-loop-n) → c.loop-n.n ≡ node_count c.args.table.now.bytes.now
all-nodes c = omega (arith, c.loop-n-test.false, c.loop-n.auto.n-end, c.node_count-n-end.ensures)

pub loop-n-init : goal.loop-n-init
loop-n-init c = standing-none c.args.table.now.bytes.now (meant c.args.reading) c.args.out.now refl refl

pub node-node-requires-clause-base_bound : goal.node-node-requires-clause-base_bound
node-node-requires-clause-base_bound c = omega (arith, (node-turn (goal.at.node-node-requires-clause-base_bound c).In-loop-n).small)

pub plan_of-plan-requires : goal.plan_of-plan-requires
plan_of-plan-requires c = let d = goal.at.plan_of-plan-requires c in rw (node-kind d.After-node-node) (node-turn d.In-loop-n).known.known_kind

pub overflow_add-first : goal.overflow_add-first
overflow_add-first c = omega (arith, (node-turn (goal.at.overflow_add-first c).In-loop-n).small)

pub overflow_mul-first : goal.overflow_mul-first
overflow_mul-first c = omega (arith, (node-turn (goal.at.overflow_mul-first c).In-loop-n).small)

pub rows-requires : goal.rows-requires
rows-requires c = let d = goal.at.rows-requires c in rw (node-plan d.After-plan_of-plan) (rows_fit (meant c.args.reading) _ (node-turn d.In-loop-n).known.known_kind)

pub put_rows-requires : goal.put_rows-requires
unfolding record_size plan_rows
put_rows-requires c = let d = goal.at.put_rows-requires c in
    let t = node-turn d.In-loop-n in
    omega (arith, ap length (c.rows.ensures ∙ ap rows_of (node-plan d.After-plan_of-plan)), length-plan_rows (meant c.args.reading) _ t.known.known_kind, t.fits, c.loop-n.invariant.sized)

pub keep-requires : goal.keep-requires
keep-requires c = omega (arith, (node-turn (goal.at.keep-requires c).In-loop-n).few)

pub loop-n-preserved : goal.loop-n-preserved
unfolding record_size plan_rows
loop-n-preserved c = let d = goal.at.loop-n-preserved c in
    let t = node-turn d.In-loop-n in
    let p = node-plan d.After-plan_of-plan in
    let node = c.node-node.result in
    rw (c.keep.ensures.firsts, c.keep.ensures.seconds)
    (standing-more c.args.table.now.bytes.now (meant c.args.reading) c.loop-n.invariant
    refl (node-kind d.After-node-node) t.known.known_kind (omega (arith, t.few))
    (rw c.new-nodes.ensures at c.node-node.ensures.words) c.node-node.ensures.base
    (c.from-next.ensures ∙ ap (λ (q : Plan). q.count) p) (c.rows.ensures ∙ ap rows_of p) (ap (λ m. 12 * (m + c.loop-n.next)) t.nodes_is)
    c.put_rows.ensures
    (c.number.ensures ∙ ap (λ (q : Plan). place node.words node.base (number_of q.first)) p)
    (c.number-in-loop-n.ensures ∙ ap (λ (q : Plan). place node.words node.base (number_of q.second)) p)
    refl)

pub overflow_add-first-2 : goal.overflow_add-first-2
overflow_add-first-2 c = let d = (goal.at.overflow_add-first-2 c).After-loop-n in omega (arith, next_small c.args.table.now (meant c.args.reading) c.requires.in_bounds c.requires.within_limit c.loop-n.invariant (all-nodes d))

pub put_constraints-requires : goal.put_constraints-requires
put_constraints-requires c = let d = (goal.at.put_constraints-requires c).After-loop-n in rw c.loop-n.invariant.sized (constraints-fit c.args.table.now (meant c.args.reading) c.requires.in_bounds c.requires.within_limit c.loop-n.invariant (all-nodes d))

pub returns : goal.returns
returns c = let d = (goal.at.returns c).After-loop-n in standing-all c.args.table.now.bytes.now (meant c.args.reading) c.loop-n.invariant (all-nodes d) (ap (λ m. m + c.loop-n.next) (laid-in c.args.table.now).nodes) c.put_constraints.ensures
