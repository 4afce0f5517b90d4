-- `declarations::element` meets its contract: each way out of it is one of document 01's cases.
use mathlib.Core.Path.{sym, ◌∙◌}
use native.Mathlib.Omega.{arith}
use mir.Syntax.{w32}
use mir.Val.{SFits}
use Rattle.std.proofs.Common.{rules}
use Rattle.std.proofs.lemmas.Int.{to_z-of_z}
use Rattle.table.specs.Records.{EL}
use Rattle.table.specs.Marks.{mark_of}
use Rattle.answers.specs.Check.{names}
use Rattle.answers.proofs.RunEnds.{unmarked_beyond}
use Rattle.verdict.proofs.Soundness.{refused_at, sound-at}
use Rattle.declarations.proofs.ElementTests.{element_misplaced, element_not_allowed, element_constant, element_names_nothing, element_wrong_type, element_sound}
use Rattle.declarations.proofs.element.Goals as goal

pub returns-then-record_count-p : goal.returns-then-record_count-p
unfolding mark_of
returns-then-record_count-p c = refused_at _ (element_misplaced _ _ _ (unmarked_beyond _ c.requires.variables.whole EL _ (omega arith)))

pub returns-then-not-marked : goal.returns-then-not-marked
unfolding mark_of
returns-then-not-marked c = refused_at _ (element_misplaced _ _ _ (sym c.marked.ensures ∙ c.if-not-marked.true))

pub returns-then-not-element_allowed : goal.returns-then-not-element_allowed
unfolding mark_of
returns-then-not-element_allowed c =
    refused_at _
    (element_not_allowed _ _ _ c.record_at-element.ensures (sym c.marked.ensures ∙ c.if-not-marked.false) (sym c.element_allowed.ensures ∙ c.if-not-element_allowed.true))

pub returns-then-element-eq0 : goal.returns-then-element-eq0
unfolding mark_of
returns-then-element-eq0 c =
    sound-at _
    (element_constant _ _ _ c.record_at-element.ensures (sym c.marked.ensures ∙ c.if-not-marked.false) (sym c.element_allowed.ensures ∙ c.if-not-element_allowed.false)
    c.if-element-eq0.true)

pub returns-then-not-names : goal.returns-then-not-names
unfolding mark_of names
returns-then-not-names c =
    let fits : SFits w32 c.record_at-element.result.x = search rules in
    let named : _ = rw (to_z-of_z w32 c.record_at-element.result.x fits) at c.names.ensures in
    refused_at _
    (element_names_nothing _ _ _ c.record_at-element.ensures (sym c.marked.ensures ∙ c.if-not-marked.false)
    (sym c.element_allowed.ensures ∙ c.if-not-element_allowed.false) c.requires.variables.counted c.if-element-eq0.false (sym named ∙ c.if-not-names.true))

pub returns-then-eq : goal.returns-then-eq
unfolding mark_of names
returns-then-eq c =
    let fits : SFits w32 c.record_at-element.result.x = search rules in
    let named : _ = rw (to_z-of_z w32 c.record_at-element.result.x fits) at c.names.ensures in
    let number : _ = rw (to_z-of_z w32 c.record_at-element.result.x fits) at c.unsigned_abs.ensures.value in
    sound-at _
    (element_sound _ _ _ c.record_at-element.ensures (sym c.marked.ensures ∙ c.if-not-marked.false)
    (sym c.element_allowed.ensures ∙ c.if-not-element_allowed.false) c.requires.variables.counted c.if-element-eq0.false (sym named ∙ c.if-not-names.false)
    number c.variable_sort-named.ensures (sym c.eq.ensures ∙ c.if-eq.true))

pub returns-else-eq : goal.returns-else-eq
unfolding mark_of names
returns-else-eq c =
    let fits : SFits w32 c.record_at-element.result.x = search rules in
    let named : _ = rw (to_z-of_z w32 c.record_at-element.result.x fits) at c.names.ensures in
    let number : _ = rw (to_z-of_z w32 c.record_at-element.result.x fits) at c.unsigned_abs.ensures.value in
    refused_at _
    (element_wrong_type _ _ _ c.record_at-element.ensures (sym c.marked.ensures ∙ c.if-not-marked.false)
    (sym c.element_allowed.ensures ∙ c.if-not-element_allowed.false) c.requires.variables.counted c.if-element-eq0.false (sym named ∙ c.if-not-names.false)
    number c.variable_sort-named.ensures (sym c.eq.ensures ∙ c.if-eq.false))
