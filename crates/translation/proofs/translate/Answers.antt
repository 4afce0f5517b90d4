-- `translation::translate` meets its contract: it answers for every input what document 01 says.
use mathlib.Core.Path.{sym}
use Rattle.std.proofs.lemmas.Result.{err_from_is_err_and}
use Rattle.translation.proofs.Outcomes.{refused-choice}
use Rattle.translation.proofs.translate.Goals as goal

pub returns-in_err-try_from : goal.returns-in_err-try_from
returns-in_err-try_from c =
    let p = err_from_is_err_and c.from_residual.result c.from_residual.ensures.1 in
    rw (p.1, p.2) (refused-choice _ _ _ c.in_err-try_from.ensures)

pub returns : goal.returns
returns c = c.translate_under.ensures _ (sym c.in_ok-try_from.ensures)
