-- `sections::run_end` meets its contract: the walk stands in the run until it stops.
use mathlib.Core.Path.{sym, ◌∙◌}
use native.Mathlib.Omega.{arith}
use Rattle.answers.proofs.RunEnds.{unmarked_beyond}
use Rattle.sections.proofs.Walks.{run_starts, run_goes_on, run_ends}
use Rattle.sections.proofs.run_end.Goals as goal

pub loop-p-init : goal.loop-p-init
loop-p-init c = record { run = run_starts; within = omega arith }

pub returns-then-not-marked : goal.returns-then-not-marked
returns-then-not-marked c = run_ends c.loop-p.invariant.run (sym c.marked.ensures ∙ c.if-not-marked.true)

pub loop-p-preserved : goal.loop-p-preserved
loop-p-preserved c = record { run = run_goes_on c.loop-p.invariant.run (omega arith) (sym c.marked.ensures ∙ c.if-not-marked.false); within = omega arith }

pub returns : goal.returns
returns c = omega (arith, c.max.ensures, c.loop-p.invariant.within) ∙ run_ends c.loop-p.invariant.run (unmarked_beyond _ c.requires _ c.loop-p.p (omega arith))
