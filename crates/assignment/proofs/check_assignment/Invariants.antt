-- `assignment::check_assignment` meets its contract.
use Rattle.assignment.proofs.Domains.{Inside}
use Rattle.assignment.proofs.check_assignment.Given as goal

abbrev pub invariant-loop-v : goal.invariant-loop-v
invariant-loop-v l = Inside l.table.bytes.now l.assignment l.v
