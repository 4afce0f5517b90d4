-- `nodes::constraints` meets its contract: each constraint's own first fault, in order.
use Rattle.std.proofs.Common.{rules}
use Rattle.verdict.proofs.Soundness.{first_found}
use Rattle.nodes.proofs.constraints.Goals as goal

pub returns : goal.returns
returns c = first_found _ _ c.check_each.ensures (λ i one l h. search rules)
