-- `barfigol::barfigol_translate` meets its contract.
use borrow.Author.Rules.{rules}
use Rattle.barfigol.proofs.Told.{told, translated}
use Rattle.barfigol.proofs.barfigol_translate.Goals as goal

pub returns : goal.returns
returns c = told c.into.ensures (told (translated _ c.translate.result c.map.result c.map.ensures.cases (λ x t d. search rules)) c.translate.ensures)
