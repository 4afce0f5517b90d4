-- `translation::bounded` meets its contract.
use native.Mathlib.Omega.{arith}
use Rattle.layout.proofs.Tables.{passed-in}
use Rattle.translation.proofs.Outcomes.{beyond-within}
use Rattle.translation.proofs.bounded.Goals as goal

pub overflow_cast-result : goal.overflow_cast-result
overflow_cast-result c = omega (arith, beyond-within _ _ (passed-in c.args.table.now) c.in-Err.ensures)
