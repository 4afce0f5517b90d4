-- `layout::checked_table::CheckedTable::node_count` meets its contract.
use native.Mathlib.Omega.{arith}
use Rattle.answers.specs.Sections.{node_count}
use Rattle.layout.proofs.Tables.{laid-in}
use Rattle.layout.proofs.checked_table.CheckedTable.node_count.Goals as goal

pub overflow_sub-result : goal.overflow_sub-result
overflow_sub-result c = let l = laid-in c.args.self.now in omega (arith, l, l.order)

pub returns : goal.returns
unfolding node_count
returns c = let l = laid-in c.args.self.now in omega (arith, l)
