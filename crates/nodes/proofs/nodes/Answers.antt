-- `nodes::nodes` meets its contract: no fault among the nodes passed, and their facts are known.
use mathlib.Core.Path.{◌≡◌, sym, ◌∙◌, ap}
use mathlib.Core.Option.{some, some-ne-none}
use Prim.Native.Nat.{ℕ, ◌+◌}
use native.Mathlib.Omega.{arith}
use mir.Syntax.{w32}
use mir.Val.{SFits}
use Rattle.std.proofs.Common.{rules}
use Rattle.std.proofs.lemmas.Int.{to_z-of_z}
use Rattle.table.specs.declared.Record.{Record}
use Rattle.kinds.proofs.Rows.{row_within}
use Rattle.answers.specs.Sections.{node_count}
use Rattle.answers.specs.Check.{refuse}
use Rattle.answers.proofs.Faults.{first-zero, first_more, first-at, first_done}
use Rattle.operands.specs.Facts.{looked}
use Rattle.nodes.proofs.Turns.{noted_known, within-x, within-y, entry_is, turn-made, turn-refused}
use Rattle.nodes.proofs.nodes.Goals as goal

pub loop-n-init : goal.loop-n-init
loop-n-init c = (omega arith, c.requires.is_known, first-zero _ _)

pub offset_bounds-kinds-row : goal.offset_bounds-kinds-row
offset_bounds-kinds-row c = omega (arith, row_within c.record_at-node.result.kind)

pub bounds-kinds-row : goal.bounds-kinds-row
bounds-kinds-row c = omega (arith, row_within c.record_at-node.result.kind)

pub look-x-requires : goal.look-x-requires
look-x-requires c =
    let fits : SFits w32 c.record_at-node.result.x = search rules in
    rw (to_z-of_z w32 c.record_at-node.result.x fits)
    (within-x _ c.loop-n.n c.loop-n.invariant.1 _ _ (entry_is _ _ c.entries-kinds.ensures c.row.ensures (ap (λ (r : Record). r.kind) c.record_at-node.ensures)))

pub look-y-requires : goal.look-y-requires
look-y-requires c =
    let fits : SFits w32 c.record_at-node.result.y = search rules in
    rw (to_z-of_z w32 c.record_at-node.result.y fits)
    (within-y _ c.loop-n.n c.loop-n.invariant.1 _ _ (entry_is _ _ c.entries-kinds.ensures c.row.ensures (ap (λ (r : Record). r.kind) c.record_at-node.ensures)))

pub returns-in_default : goal.returns-in_default
returns-in_default c =
    let fits-x : SFits w32 c.record_at-node.result.x = search rules in
    let fits-y : SFits w32 c.record_at-node.result.y = search rules in
    let refused : _ = turn-refused _ c.loop-n.n c.loop-n.invariant.1 (ap (λ (q : ℕ). q + c.loop-n.n) c.requires.first) c.record_at-node.ensures
    (entry_is _ _ c.entries-kinds.ensures c.row.ensures (ap (λ (r : Record). r.kind) c.record_at-node.ensures))
    (c.look-x.ensures ∙ ap (looked _ _) (to_z-of_z w32 _ fits-x)) (c.look-y.ensures ∙ ap (looked _ _) (to_z-of_z w32 _ fits-y)) c.make.ensures c.in_default.is in
    record {
      fault_found =
          ap some c.node_fault.ensures ∙ ap (refuse _) (ap (λ (q : ℕ). q + c.loop-n.n) c.requires.first)
          ∙ sym (first-at _ _ c.loop-n.n c.loop-n.invariant.2 refused (omega (arith, c.loop-n-test.true, c.requires.counted)));
      all_known = λ e. absurd (some-ne-none _ e);
    }

pub loop-n-preserved : goal.loop-n-preserved
loop-n-preserved c =
    let fits-x : SFits w32 c.record_at-node.result.x = search rules in
    let fits-y : SFits w32 c.record_at-node.result.y = search rules in
    let made : _ = turn-made _ c.loop-n.n c.loop-n.invariant.1 (ap (λ (q : ℕ). q + c.loop-n.n) c.requires.first) c.record_at-node.ensures
    (entry_is _ _ c.entries-kinds.ensures c.row.ensures (ap (λ (r : Record). r.kind) c.record_at-node.ensures))
    (c.look-x.ensures ∙ ap (looked _ _) (to_z-of_z w32 _ fits-x)) (c.look-y.ensures ∙ ap (looked _ _) (to_z-of_z w32 _ fits-y)) c.make.ensures
    (omega (arith, c.loop-n-test.true, c.requires.counted)) c.in-Some.is in (
      omega (arith, c.loop-n-test.true),
      noted_known _ c.loop-n.n c.loop-n.invariant.1 (omega (arith, c.loop-n-test.true, c.requires.counted)) made.1 c.note.ensures,
      first_more _ _ c.loop-n.n c.loop-n.invariant.2 made.0,
    )

pub returns : goal.returns
returns c =
    let e : c.loop-n.n ≡ node_count c.args.table.now = omega (arith, c.requires.counted) in
    record { fault_found = first_done _ _ c.loop-n.invariant.2 e; all_known = λ _. rw e at c.loop-n.invariant.1 }
