-- `constraints::constraint_value` meets its contract.
use mathlib.Core.Path.{ap, ◌∙◌}
use native.Mathlib.Omega.{arith}
use lib.IntN.{nat_abs}
use Rattle.table.specs.declared.Record.{Record}
use Rattle.constraints.specs.Verdicts.{walked_at}
use Rattle.constraints.proofs.Walking.{constraint-within, constraint-names, prepared-laid, prepared-walked}
use Rattle.constraints.proofs.constraint_value.Goals as goal

pub record_at-requires : goal.record_at-requires
record_at-requires c = constraint-within _ c.args.table.now.checked.sound c.requires

pub invariant_of-walk : goal.invariant_of-walk
invariant_of-walk c = record { laid = prepared-laid c.args.table.now }

pub constraint-requires : goal.constraint-requires
constraint-requires c = omega (arith, c.named-n.ensures.x, ap (λ (r : Record). nat_abs r.x) c.record_at.ensures, constraint-names _ c.args.table.now.checked.sound c.requires, c.args.table.now.placed.node_total)

pub returns : goal.returns
returns c = c.constraint.ensures ∙ prepared-walked c.args.table.now _ _ _ ∙ ap (walked_at _ _ _) (c.named-n.ensures.x ∙ ap (λ (r : Record). nat_abs r.x) c.record_at.ensures)
