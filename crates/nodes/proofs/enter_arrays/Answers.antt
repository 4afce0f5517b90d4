-- `nodes::enter_arrays` meets its contract: the facts of the arrays passed stand at their places.
use mathlib.Core.Path.{◌≡◌, sym, ◌∙◌, ap}
use native.Mathlib.Omega.{arith}
use lib.IntN.{nat_abs}
use mir.Syntax.{w32}
use mir.Val.{SFits}
use Rattle.std.proofs.Common.{rules}
use Rattle.std.proofs.lemmas.Int.{to_z-of_z}
use Rattle.table.specs.Records.{AR, kind_at}
use Rattle.table.specs.declared.Record.{Record}
use Rattle.answers.proofs.RunEnds.{marked-within}
use Rattle.kinds.specs.Entries.{declared_sort}
use Rattle.operands.specs.Facts.{closed}
use Rattle.nodes.proofs.Entered.{entered-none, entered-more}
use Rattle.nodes.proofs.Turns.{first-array, array-marked, array-record, next-array}
use Rattle.nodes.proofs.enter_arrays.Goals as goal

pub loop-a-init : goal.loop-a-init
loop-a-init c = (omega arith, entered-none 19 _ _, first-array _ c.requires.first)

pub record_at-array-requires : goal.record_at-array-requires
record_at-array-requires c = marked-within _ c.requires.whole AR _ (array-marked _ c.loop-a.invariant.2 (omega (arith, c.requires.counted)))

pub overflow_add-p : goal.overflow_add-p
overflow_add-p c = omega (arith, marked-within _ c.requires.whole AR _ (array-marked _ c.loop-a.invariant.2 (omega (arith, c.requires.counted))), c.requires.few_records)

pub overflow_add-p-in-loop-a : goal.overflow_add-p-in-loop-a
overflow_add-p-in-loop-a c = omega (arith, c.unsigned_abs.ensures.bound, marked-within _ c.requires.whole AR _ (array-marked _ c.loop-a.invariant.2 (omega (arith, c.requires.counted))), c.requires.few_records)

pub loop-a-preserved : goal.loop-a-preserved
loop-a-preserved c = let fits : SFits w32 c.record_at-array.result.y = search rules in (
  omega arith,
  entered-more 19 _ _ c.loop-a.a c.loop-a.invariant.1
      (c.closed.ensures ∙ ap closed (c.declared.ensures ∙ ap declared_sort (ap (λ (r : Record). r.kind) c.record_at-array.ensures ∙ ap (kind_at _) (sym (array-record _ c.loop-a.invariant.2 (omega (arith, c.requires.counted))))))),
  next-array _ c.loop-a.invariant.2 (omega (arith, c.requires.counted))
      (c.unsigned_abs.ensures.value ∙ rw (to_z-of_z w32 c.record_at-array.result.y fits) (ap (λ (r : Record). nat_abs r.y) c.record_at-array.ensures)),
)

pub returns : goal.returns
returns c = let e : c.loop-a.a ≡ c.args.count = omega arith in rw (← e) c.loop-a.invariant.1
