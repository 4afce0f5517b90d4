-- `barfigol::barfigol_check` meets its contract.
use mathlib.Core.Path.{◌∙◌}
use borrow.Author.Rules.{rules}
use Rattle.barfigol.proofs.Told.{checked}
use Rattle.barfigol.proofs.barfigol_check.Goals as goal

pub returns : goal.returns
returns c = c.into.ensures ∙ checked _ c.check.result c.map.result c.map.ensures.cases (λ x t d. search rules) ∙ c.check.ensures
