-- What a checked table's two facts give: it is laid out as the code relies on, and its places are those of its sections.
use Rattle.layout.specs.Passed.{Passed}
use Rattle.layout.specs.declared.checked_table.CheckedTable.{CheckedTable}
use Rattle.layout.proofs.Checked.{checked}
use Rattle.layout.proofs.Order.{Laid, laid}

pub passed-in : (t : CheckedTable) → Passed t.bytes.now
passed-in t = checked t.bytes.now t.sound

pub laid-in : (t : CheckedTable) → Laid t.bytes.now t.at
laid-in t = laid t.bytes.now (passed-in t) t.placed
