-- `nodes::enter_variables` meets its contract: the facts of the variables passed stand at their places.
use mathlib.Core.Path.{◌≡◌, ap, ◌∙◌}
use native.Mathlib.Omega.{arith}
use Rattle.kinds.specs.Entries.{declared_sort}
use Rattle.operands.specs.Facts.{closed}
use Rattle.nodes.proofs.Entered.{entered-none, entered-more}
use Rattle.table.specs.declared.Record.{Record}
use Rattle.nodes.proofs.enter_variables.Goals as goal

pub loop-v-init : goal.loop-v-init
loop-v-init c = (omega arith, entered-none 83 _ _)

pub loop-v-preserved : goal.loop-v-preserved
loop-v-preserved c = (omega arith, entered-more 83 _ _ c.loop-v.v c.loop-v.invariant.1 (c.closed.ensures ∙ ap closed (c.declared.ensures ∙ ap declared_sort (ap (λ (r : Record). r.kind) c.record_at-variable.ensures))))

pub returns : goal.returns
returns c = let e : c.loop-v.v ≡ c.args.count = omega arith in rw (← e) c.loop-v.invariant.1
