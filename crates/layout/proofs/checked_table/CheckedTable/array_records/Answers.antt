-- `layout::checked_table::CheckedTable::array_records` meets its contract.
use Rattle.layout.proofs.Tables.{passed-in}
use Rattle.layout.proofs.checked_table.CheckedTable.array_records.Goals as goal

pub array_records-requires : goal.array_records-requires
array_records-requires c = record { passed = passed-in c.args.self.now; at_value = c.args.self.now.placed }
