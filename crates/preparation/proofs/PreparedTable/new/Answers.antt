-- `preparation::PreparedTable::new` meets its contract.
use Rattle.layout.proofs.Tables.{passed-in}
use Rattle.preparation.proofs.PreparedTable.new.Goals as goal

pub lay_out-requires : goal.lay_out-requires
lay_out-requires c = record { passed = passed-in c.args.table.now; at_value = c.args.table.now.placed }
