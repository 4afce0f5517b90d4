-- `evaluation::evaluate` meets its contract: it answers for every input what document 01 says.
use Rattle.std.proofs.lemmas.Result.{err_from_is_err_and}
use Rattle.evaluation.proofs.Outcomes.{admitted_room, refused-choice, refused-check, refused-before, after-walk}
use Rattle.evaluation.proofs.evaluate.Goals as goal

pub returns-in_err-reading : goal.returns-in_err-reading
returns-in_err-reading c =
    let p = err_from_is_err_and c.from_residual.result c.from_residual.ensures.1 in
    rw (p.1, p.2) (refused-choice _ _ _ _ _ c.in_err-reading.ensures)

pub returns-in_err-table : goal.returns-in_err-table
returns-in_err-table c =
    let p = err_from_is_err_and c.from_residual-in_err-table.result c.from_residual-in_err-table.ensures.1 in
    rw (p.1, p.2) (refused-check _ _ c.in_ok-reading.ensures _ _ _ _ _ c.in_err-table.ensures)

pub returns-in_err-steps : goal.returns-in_err-steps
returns-in_err-steps c =
    let p = err_from_is_err_and c.from_residual-in_err-steps.result c.from_residual-in_err-steps.ensures.1 in
    rw (p.1, p.2, ← c.in_ok-table.ensures) (refused-before _ _ c.in_ok-reading.ensures _ _ _ _ c.in_ok-table.table.sound _ c.in_err-steps.ensures.fault)

pub evaluate_admitted-requires-clause-table_in_bounds : goal.evaluate_admitted-requires-clause-table_in_bounds
evaluate_admitted-requires-clause-table_in_bounds c = admitted_room _ _ _ _ c.in_ok-steps.ensures.fault

pub returns : goal.returns
returns c =
    rw (← c.in_ok-table.ensures) (after-walk _ _ c.in_ok-reading.ensures _ _ _ _ c.in_ok-table.table.sound c.in_ok-steps.ensures.fault c.evaluate_admitted.ensures)
