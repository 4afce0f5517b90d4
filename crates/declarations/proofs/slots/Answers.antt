-- `declarations::slots` meets its contract: the first fault among the records of the section.
use Rattle.std.proofs.Common.{rules}
use Rattle.verdict.proofs.Soundness.{first_found}
use Rattle.declarations.proofs.slots.Goals as goal

pub returns : goal.returns
returns c = first_found _ _ c.check_each.ensures (λ i one l h. search rules)
