-- `translator::new_records` meets its contract.
use mathlib.Core.Path.{◌≡◌, ap, ◌∙◌}
use Prim.Native.Nat.{◌+◌, ◌-◌, ◌<◌}
use native.Mathlib.Omega.{arith}
use lib.ListN.{length}
use Rattle.rules.specs.Writing.{Translated, nothing_yet}
use Rattle.table.specs.declared.Record.{Record}
use Rattle.table.specs.Records.{record_count, kind_at}
use Rattle.answers.specs.Sections.{nodes_at, node_count, constraint_count}
use Rattle.layout.proofs.Tables.{passed-in, laid-in}
use Rattle.reading.specs.Readings.{meant}
use Rattle.translator.specs.declared.plans.Plan.{Plan}
use Rattle.translator.specs.Plans.{plan_at}
use Rattle.translator.proofs.States.{state-zero, length-state-suc, new-count}
use Rattle.translator.proofs.new_records.Goals.{In-loop-p}
use Rattle.translator.proofs.new_records.Goals as goal

-- the node of a turn: its number and its kind
record Turn (c : In-loop-p) : Type 0 where
  stands : c.loop-p.p ≡ nodes_at c.args.table.now.bytes.now + (c.loop-p.p - c.args.table.now.at.nodes)
  known : kind_at c.args.table.now.bytes.now c.loop-p.p < 31

node-turn : (c : In-loop-p) → Turn c
unfolding node_count
node-turn c = let s = c.args.table.now.bytes.now in
    let l = laid-in c.args.table.now in
    let stands : c.loop-p.p ≡ nodes_at s + (c.loop-p.p - c.args.table.now.at.nodes) = omega (arith, l.nodes) in
    record { stands = stands; known = rw stands ((passed-in c.args.table.now).known_kinds (c.loop-p.p - c.args.table.now.at.nodes) (omega (arith, l))) }

pub overflow_add-total : goal.overflow_add-total
unfolding constraint_count
overflow_add-total c = let l = laid-in c.args.table.now in omega (arith, l, l.order, c.constraint_count.ensures)

pub loop-p-init : goal.loop-p-init
unfolding nothing_yet
loop-p-init c = let z : c.args.table.now.at.nodes - c.args.table.now.at.nodes ≡ 0 = omega arith in record { total_is = rw z (omega (arith, ap (λ (t : Translated). length t.rows) (state-zero c.args.table.now.bytes.now (meant c.args.reading)))); few = omega arith }

pub record_at-requires : goal.record_at-requires
record_at-requires c = let l = laid-in c.args.table.now in omega (arith, l, l.order)

pub plan_of-requires : goal.plan_of-requires
plan_of-requires c = rw (ap (λ (r : Record). r.kind) c.record_at.ensures) (node-turn (goal.at.plan_of-requires c).In-loop-p).known

pub overflow_add-total-in-loop-p : goal.overflow_add-total-in-loop-p
unfolding record_count constraint_count
overflow_add-total-in-loop-p c = let l = laid-in c.args.table.now in omega (arith, c.loop-p.invariant.few, l, l.order, c.constraint_count.ensures)

pub loop-p-preserved : goal.loop-p-preserved
loop-p-preserved c = let ρ = meant c.args.reading in
    let p = c.loop-p.p in
    let t = node-turn (goal.at.loop-p-preserved c).In-loop-p in
    let next : p + 1 - c.args.table.now.at.nodes ≡ p - c.args.table.now.at.nodes + 1 = omega arith in
    let plan = c.plan_of.ensures ∙ ap (λ (r : Record). plan_at ρ r.kind) c.record_at.ensures in
    record {
      total_is = rw next (omega (arith, c.loop-p.invariant.total_is, c.from-total.ensures, ap (λ (q : Plan). q.count) plan, length-state-suc c.args.table.now.bytes.now ρ (p - c.args.table.now.at.nodes) t.stands t.known));
      few = omega (arith, c.loop-p.invariant.few, c.from-total.ensures);
    }

pub returns : goal.returns
unfolding node_count constraint_count
returns c = let l = laid-in c.args.table.now in
    let ρ = meant c.args.reading in
    let n = c.loop-p.p - c.args.table.now.at.nodes in
    omega (arith, c.loop-p.invariant.total_is, l, l.order, new-count c.args.table.now.bytes.now ρ n (omega (arith, l, l.order)))
