-- `evaluation::admit` meets its contract.
use native.Mathlib.Omega.{arith}
use Rattle.std.proofs.lemmas.Result.{err_from_is_err_and}
use Rattle.evaluation.proofs.Outcomes.{admits_unassigned, admits_no_room, admits_over, admits_steps}
use Rattle.evaluation.proofs.admit.Goals as goal

pub returns-in_err-check_assignment : goal.returns-in_err-check_assignment
returns-in_err-check_assignment c =
    let p = err_from_is_err_and c.from_residual.result c.from_residual.ensures.1 in
    rw (p.1, p.2) (admits_unassigned _ _ _ _ _ c.in_err-check_assignment.ensures)

pub returns-then-room-constraint_count : goal.returns-then-room-constraint_count
returns-then-room-constraint_count c = admits_no_room _ _ _ _ c.in_ok-check_assignment.ensures c.constraint_count.ensures (omega arith)

pub returns-then-steps-budget : goal.returns-then-steps-budget
returns-then-steps-budget c = admits_steps _ _ _ _ c.in_ok-check_assignment.ensures c.constraint_count.ensures (omega arith) c.total_steps-steps.ensures (omega (arith, c.ranges)) (omega arith)

pub returns-else-steps-budget : goal.returns-else-steps-budget
returns-else-steps-budget c = admits_over _ _ _ _ c.in_ok-check_assignment.ensures c.constraint_count.ensures (omega arith) c.total_steps-steps.ensures (omega (arith, c.ranges)) (omega arith)
