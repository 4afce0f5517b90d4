-- `steps::total_steps` meets its contract.
use mathlib.Core.Path.{refl}
use native.Mathlib.Omega.{arith}
use Rattle.answers.specs.Sections.{node_count}
use Rattle.layout.proofs.Tables.{laid-in}
use Rattle.steps.proofs.Nodes.{kept-none, kept_more}
use Rattle.steps.proofs.total_steps.Goals as goal

pub loop-n-init : goal.loop-n-init
loop-n-init c = kept-none c.args.table.now.bytes.now refl

pub offset_bounds-costs-n : goal.offset_bounds-costs-n
unfolding node_count
offset_bounds-costs-n c = let l = laid-in c.args.table.now in omega (arith, l.order)

pub bounds-costs-n : goal.bounds-costs-n
unfolding node_count
bounds-costs-n c = let l = laid-in c.args.table.now in omega (arith, l.order)

pub loop-n-preserved : goal.loop-n-preserved
unfolding node_count
loop-n-preserved c = let l = laid-in c.args.table.now in kept_more c.args.table.now.bytes.now c.loop-n.invariant (omega (arith, l.order)) c.node_steps.ensures
