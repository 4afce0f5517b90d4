-- `soundness::checked` meets its contract.
use Rattle.std.proofs.lemmas.Result.{err_from_is_err_and}
use Rattle.soundness.proofs.Sound.{answered→fault, sound→checked}
use Rattle.soundness.proofs.checked.Goals as goal

pub returns-in_err-check : goal.returns-in_err-check
returns-in_err-check c =
    let p = err_from_is_err_and c.from_residual.result c.from_residual.ensures.1 in
    rw (p.1, p.2) (answered→fault _ _ c.in_err-check.ensures)

pub new-requires : goal.new-requires
new-requires c = sound→checked _ _ c.check.ensures c.in_ok-check.was
