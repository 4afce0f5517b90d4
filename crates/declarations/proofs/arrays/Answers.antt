-- `declarations::arrays` meets its contract: the arrays passed have no fault.
use mathlib.Core.Path.{◌≡◌, refl, sym, ◌∙◌, ap}
use native.Mathlib.Omega.{arith}
use lib.IntN.{nat_abs}
use mir.Syntax.{w32}
use mir.Val.{SFits}
use Rattle.std.proofs.Common.{rules, Err}
use Rattle.std.proofs.lemmas.Int.{to_z-of_z}
use Rattle.table.specs.Records.{AR}
use Rattle.table.specs.Marks.{mark_of}
use Rattle.table.specs.declared.Record.{Record}
use Rattle.kinds.specs.Entries.{declared_sort}
use Rattle.answers.proofs.Faults.{unless-true, unless-false}
use Rattle.answers.proofs.RunEnds.{unmarked_beyond}
use Rattle.declarations.proofs.ArrayWalk.{none_passed, all-passed, array-refused, elements-refused, one-passed}
use Rattle.declarations.proofs.arrays.Goals as goal

pub loop-p-init : goal.loop-p-init
loop-p-init c = none_passed _ _

pub returns-then-not-array_allowed : goal.returns-then-not-array_allowed
unfolding mark_of
returns-then-not-array_allowed c =
    array-refused _ c.loop-p.invariant (omega arith) (sym c.marked.ensures ∙ c.if-marked.true) (sym c.array_allowed.ensures ∙ unless-false 3 c.if-not-array_allowed.true)

pub returns-in_err-elements : goal.returns-in_err-elements
unfolding mark_of
returns-in_err-elements c =
    let e : c.from_residual.result ≡ Err c.in_err-elements.field-0.0 = search rules in
    let fits : SFits w32 c.record_at-array.result.y = search rules in
    rw e
    (elements-refused _ c.loop-p.invariant (omega (arith, c.record_count-n.ensures, c.loop-p-test.true)) (sym c.marked.ensures ∙ c.if-marked.true)
    (sym c.array_allowed.ensures ∙ unless-true 3 c.if-not-array_allowed.false)
    (c.declared.ensures ∙ ap (λ (r : Record). declared_sort r.kind) c.record_at-array.ensures)
    (c.unsigned_abs-count.ensures.value ∙ rw (to_z-of_z w32 c.record_at-array.result.y fits) (ap (λ (r : Record). nat_abs r.y) c.record_at-array.ensures))
    c.in_err-elements.ensures refl)

pub loop-p-preserved : goal.loop-p-preserved
unfolding mark_of
loop-p-preserved c =
    let fits : SFits w32 c.record_at-array.result.y = search rules in
    one-passed _ c.loop-p.invariant (omega (arith, c.record_count-n.ensures, c.loop-p-test.true)) (sym c.marked.ensures ∙ c.if-marked.true)
    (sym c.array_allowed.ensures ∙ unless-true 3 c.if-not-array_allowed.false)
    (c.declared.ensures ∙ ap (λ (r : Record). declared_sort r.kind) c.record_at-array.ensures)
    (c.unsigned_abs-count.ensures.value ∙ rw (to_z-of_z w32 c.record_at-array.result.y fits) (ap (λ (r : Record). nat_abs r.y) c.record_at-array.ensures))
    c.in_ok-elements.ensures refl

pub returns-else-marked : goal.returns-else-marked
unfolding mark_of
returns-else-marked c = all-passed _ c.loop-p.invariant (sym c.marked.ensures ∙ c.if-marked.false)

pub returns-after-loop-p : goal.returns-after-loop-p
unfolding mark_of
returns-after-loop-p c = all-passed _ c.loop-p.invariant (unmarked_beyond _ c.requires.whole AR c.loop-p.p (omega arith))
