-- `barfigol::barfigol_evaluate` meets its contract.
use Rattle.barfigol.proofs.Told.{told, evaluated}
use Rattle.barfigol.proofs.barfigol_evaluate.Goals as goal

pub returns : goal.returns
returns c = told c.into.ensures (told (evaluated c.evaluate.result) c.evaluate.ensures)
