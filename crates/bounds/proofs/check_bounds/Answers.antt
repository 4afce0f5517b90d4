-- `bounds::check_bounds` meets its contract.
use native.Mathlib.Omega.{arith}
use mathlib.Core.Path.{◌≡◌, refl, sym, ap, ◌∙◌}
use Prim.Native.Nat.{◌+◌, ◌<◌}
use mathlib.Core.Option.{Option, none}
use lib.ListN.{length, take}
use Rattle.std.specs.Prelude.{Result, Ok, Err}
use Rattle.std.specs.Option.{ok_or}
use Rattle.std.proofs.lemmas.List.{length-take}
use Rattle.std.proofs.lemmas.Result.{err_from_is_err_and}
use Rattle.answers.specs.Check.{Refusal, refuse}
use Rattle.answers.specs.Sections.{node_count}
use Rattle.table.specs.Records.{record_count}
use Rattle.layout.proofs.Tables.{laid-in}
use Rattle.intervals.specs.Spans.{is_within}
use Rattle.intervals.proofs.Spans.{narrowed-some, narrowed-none}
use Rattle.bounds.specs.Kept.{node_ends}
use Rattle.intervals.specs.declared.Interval as Declared
use Rattle.bounds.specs.declared.Beyond.{Beyond}
use Rattle.bounds.proofs.Declared.{held}
use Rattle.bounds.proofs.Nodes.{passing_none, passing_more, beyond-at, passing_all, kept_of}
use Rattle.bounds.proofs.check_bounds.Goals.{In-loop-n, After-within_limit}
use Rattle.bounds.proofs.check_bounds.Goals as goal

-- a node number below the count, and below the most records there are
counted : (c : In-loop-n) → c.loop-n.n < node_count c.args.table.now.bytes.now
counted c = omega (arith, c.node_count-count.ensures, c.loop-n-test.true)

few : (c : In-loop-n) → c.loop-n.n < 5_000
unfolding node_count
few c = let l = laid-in c.args.table.now in omega (arith, l, l.order, counted c)

-- what an interval is refused with
abbrev refused : Result Declared.Interval Beyond → Option Refusal
refused (Ok i) = none
refused (Err e) = refuse 8 e.0

-- so many intervals are lent as there are nodes before
lent : (c : In-loop-n) → length (take c.loop-n.n c.loop-n.kept) ≡ c.loop-n.n
lent c = omega (arith, length-take c.loop-n.n c.loop-n.kept, few c, c.loop-n.invariant.filled.sized)

pub loop-n-init : goal.loop-n-init
loop-n-init c = passing_none _ refl

pub slice_bounds-kept-end : goal.slice_bounds-kept-end
slice_bounds-kept-end c = omega (arith, few (goal.at.slice_bounds-kept-end c).In-loop-n, c.loop-n.invariant.filled.sized)

pub slice_bounds-node_ends-end-in-loop-n : goal.slice_bounds-node_ends-end-in-loop-n
slice_bounds-node_ends-end-in-loop-n c = sym (lent (goal.at.slice_bounds-node_ends-end-in-loop-n c).In-loop-n)

pub node_ends-ends-requires : goal.node_ends-ends-requires
node_ends-ends-requires c = let d = (goal.at.node_ends-ends-requires c).In-loop-n in
    record { inside = omega (arith, lent d, counted d); kept = rw (lent d) (kept_of _ c.loop-n.invariant.filled (omega (arith, few d))); hulls = c.array_hulls-hulls.ensures }

pub overflow_add-nodes : goal.overflow_add-nodes
unfolding node_count record_count
overflow_add-nodes c = let l = laid-in c.args.table.now in omega (arith, l, l.order, counted (goal.at.overflow_add-nodes c).In-loop-n)

pub returns-in_err-kept : goal.returns-in_err-kept
returns-in_err-kept c = let d = (goal.at.returns-in_err-kept c).In-loop-n in
    let p = err_from_is_err_and c.from_residual.result c.from_residual.ensures.1 in
    let o = c.in_err-kept.ensures in
    let e = c.node_ends-ends.ensures ∙ ap (node_ends c.args.table.now.bytes.now) (lent d) in
    rw (p.1, p.2) (ap refused (o.value ∙ ap (λ r. ok_or r (record { 0 = c.args.table.now.at.nodes + c.loop-n.n })) o.ok_part)
    ∙ ap (λ k. refuse 8 (k + c.loop-n.n)) (laid-in c.args.table.now).nodes
    ∙ beyond-at _ c.loop-n.invariant (counted d) (ap is_within (sym e) ∙ narrowed-none _ c.within_limit.ensures o.ok_part))

pub offset_bounds-kept-n : goal.offset_bounds-kept-n
offset_bounds-kept-n c = omega (arith, few (goal.at.offset_bounds-kept-n c).In-loop-n)

pub bounds-kept-n : goal.bounds-kept-n
bounds-kept-n c = few (goal.at.bounds-kept-n c).In-loop-n

pub loop-n-preserved : goal.loop-n-preserved
loop-n-preserved c = let d = (goal.at.loop-n-preserved c).In-loop-n in
    let w = narrowed-some _ c.within_limit.ensures c.in_ok-kept.ensures.ok_part in
    let e = c.node_ends-ends.ensures ∙ ap (node_ends c.args.table.now.bytes.now) (lent d) in
    passing_more _ c.loop-n.invariant (counted d) (few d) (ap held (w.0 ∙ e)) (ap is_within (sym e) ∙ w.1)

pub returns : goal.returns
returns c = passing_all _ c.loop-n.invariant (omega (arith, c.node_count-count.ensures, c.loop-n.auto, c.loop-n-test.false))
