-- `steps::constraint_steps` meets its contract.
use mathlib.Core.Path.{◌≡◌}
use Prim.Native.Nat.{◌-◌}
use Rattle.answers.specs.Sections.{constraints_at}
use Rattle.answers.specs.Answers.{costs}
use Rattle.steps.specs.Capped.{capped}
use Rattle.steps.proofs.Constraints.{constraints_below}
use Rattle.steps.proofs.constraint_steps.Given as goal

abbrev pub invariant-loop-p : goal.invariant-loop-p
invariant-loop-p l = l.total ≡ capped (costs l.table.bytes.now (constraints_below l.table.bytes.now (l.p - constraints_at l.table.bytes.now)))
