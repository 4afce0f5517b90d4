-- What stands before the nodes of the new table: "VR, SL, AR and EL are copied".
-- Internal: a contract behind the public ones; no public promise cites it.
use Rattle.std.specs.Prelude.{ℕ, ◌-◌, ◌*◌, List, ◌++◌, pos, take, drop}
use Rattle.table.specs.Records.{HD, record_size, record_bytes}
use Rattle.answers.specs.Sections.{nodes_at}

-- HD with the new table's count, and the declarations
unfoldable pub front : List ℕ → ℕ → List ℕ
front table records =
    record_bytes HD 1 (pos records) (pos 0) ++ take (record_size * nodes_at table - record_size) (drop record_size table)
