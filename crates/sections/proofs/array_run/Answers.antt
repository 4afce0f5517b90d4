-- `sections::array_run` meets its contract: the walk goes from array to array until it stops.
use mathlib.Core.Path.{sym, ◌∙◌, ap}
use Prim.Native.Nat.{◌+◌}
use native.Mathlib.Omega.{arith}
use lib.IntN.{nat_abs}
use Rattle.table.specs.declared.Record.{Record}
use Rattle.table.specs.Records.{AR, record_size, record_count}
use Rattle.table.specs.Marks.{mark_of}
use Rattle.answers.proofs.RunEnds.{unmarked_beyond}
use Rattle.sections.proofs.Walks.{arrays-start, arrays-go-on, arrays-end}
use Rattle.sections.proofs.array_run.Goals as goal

pub loop-p-init : goal.loop-p-init
loop-p-init c = arrays-start

pub returns-else-marked : goal.returns-else-marked
unfolding mark_of
returns-else-marked c = arrays-end c.loop-p.invariant (sym c.marked.ensures ∙ c.if-marked.false)

pub overflow_add-p-in-loop-p : goal.overflow_add-p-in-loop-p
unfolding record_count record_size
overflow_add-p-in-loop-p c = omega (arith, c.named-elements.ensures.y_bound)

pub loop-p-preserved : goal.loop-p-preserved
unfolding mark_of
loop-p-preserved c = arrays-go-on c.loop-p.invariant (omega arith)
    (sym c.marked.ensures ∙ c.if-marked.true)
    (ap (◌+◌ (c.loop-p.p + 1)) (c.named-elements.ensures.y ∙ ap (λ (r : Record). nat_abs r.y) c.record_at.ensures))

pub returns-after-loop-p : goal.returns-after-loop-p
unfolding mark_of
returns-after-loop-p c = arrays-end c.loop-p.invariant (unmarked_beyond _ c.requires AR c.loop-p.p (omega arith))
