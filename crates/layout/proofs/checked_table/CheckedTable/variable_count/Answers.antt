-- `layout::checked_table::CheckedTable::variable_count` meets its contract.
use native.Mathlib.Omega.{arith}
use Rattle.answers.specs.Sections.{variable_count, variables_at}
use Rattle.layout.proofs.Tables.{laid-in}
use Rattle.layout.proofs.checked_table.CheckedTable.variable_count.Goals as goal

pub overflow_sub-result : goal.overflow_sub-result
overflow_sub-result c = let l = laid-in c.args.self.now in omega (arith, l, l.order)

pub returns : goal.returns
unfolding variable_count variables_at
returns c = let l = laid-in c.args.self.now in omega (arith, l)
