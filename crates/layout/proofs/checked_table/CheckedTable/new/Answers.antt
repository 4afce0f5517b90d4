-- `layout::checked_table::CheckedTable::new` meets its contract: a table that passes has whole records.
use Rattle.layout.proofs.Checked.{checked}
use Rattle.layout.proofs.checked_table.CheckedTable.new.Goals as goal

pub find_places-requires : goal.find_places-requires
find_places-requires c = (checked c.args.bytes.now c.requires).whole
