-- `kinds::entries` meets its contract: the entries are those of document 01's table, one after the other.
use mathlib.Core.Path.{refl}
use Rattle.table.specs.Kinds.{kinds}
use Rattle.kinds.specs.Entries.{entries_of, entry_of, operand_x, operand_y, operand_of, yields_of, sort_of, binds_of, binds_in}
use Rattle.kinds.proofs.entries.Goals as goal

pub returns : goal.returns
unfolding kinds entries_of entry_of operand_x operand_y operand_of yields_of sort_of binds_of binds_in
returns c = refl
