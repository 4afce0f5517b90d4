-- `nodes::constraint` meets its contract: each way out of it is one of document 01's cases.
use mathlib.Core.Path.{sym, ◌∙◌, ap}
use mir.Syntax.{w32}
use mir.Val.{SFits}
use Rattle.std.proofs.Common.{rules, Err}
use Rattle.std.proofs.lemmas.Int.{to_z-of_z}
use Rattle.kinds.specs.declared.Operand.TheVariants.{BooleanNode}
use Rattle.verdict.proofs.Soundness.{refused_at, sound-at}
use Rattle.operands.specs.Facts.{looked}
use Rattle.nodes.proofs.ConstraintTests.{constraint-not-allowed, body_within, constraint-names-nothing, constraint-wrong-type, constraint-open, constraint-sound}
use Rattle.nodes.proofs.constraint.Goals as goal

pub returns-then-not-constraint_allowed : goal.returns-then-not-constraint_allowed
returns-then-not-constraint_allowed c =
    refused_at _ (constraint-not-allowed _ _ c.requires c.record_at-record.ensures (sym c.constraint_allowed.ensures ∙ c.if-not-constraint_allowed.true))

pub look-requires : goal.look-requires
look-requires c =
    let fits : SFits w32 c.record_at-record.result.x = search rules in
    rw (to_z-of_z w32 c.record_at-record.result.x fits) (body_within _ _ c.requires c.record_at-record.ensures)

pub returns-in-Ok : goal.returns-in-Ok
returns-in-Ok c =
    let fits : SFits w32 c.record_at-record.result.x = search rules in
    sound-at _ (constraint-sound _ _ c.requires c.record_at-record.ensures (sym c.constraint_allowed.ensures ∙ c.if-not-constraint_allowed.false)
    (c.look.ensures ∙ ap (looked _ BooleanNode) (to_z-of_z w32 _ fits)) c.in-Ok.is (rw c.from.ensures at c.if-from-all-eq0.true))

pub returns-in-Ok-2 : goal.returns-in-Ok-2
returns-in-Ok-2 c =
    let fits : SFits w32 c.record_at-record.result.x = search rules in
    refused_at _ (constraint-open _ _ c.requires c.record_at-record.ensures (sym c.constraint_allowed.ensures ∙ c.if-not-constraint_allowed.false)
    (c.look.ensures ∙ ap (looked _ BooleanNode) (to_z-of_z w32 _ fits)) c.in-Ok.is (rw c.from.ensures at c.if-from-all-eq0.false))

pub returns-in-Err-Beyond : goal.returns-in-Err-Beyond
returns-in-Err-Beyond c =
    let fits : SFits w32 c.record_at-record.result.x = search rules in
    refused_at _ (constraint-names-nothing _ _ c.requires c.record_at-record.ensures (sym c.constraint_allowed.ensures ∙ c.if-not-constraint_allowed.false)
    (c.look.ensures ∙ ap (looked _ BooleanNode) (to_z-of_z w32 _ fits)) (c.in-Err-Beyond.is ∙ ap Err c.in-Err-Beyond.field-0-is))

pub returns-in-Err-OtherType : goal.returns-in-Err-OtherType
returns-in-Err-OtherType c =
    let fits : SFits w32 c.record_at-record.result.x = search rules in
    refused_at _ (constraint-wrong-type _ _ c.requires c.record_at-record.ensures (sym c.constraint_allowed.ensures ∙ c.if-not-constraint_allowed.false)
    (c.look.ensures ∙ ap (looked _ BooleanNode) (to_z-of_z w32 _ fits)) (c.in-Err-OtherType.is ∙ ap Err c.in-Err-OtherType.field-0-is))
