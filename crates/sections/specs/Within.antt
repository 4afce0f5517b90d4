-- A section of a table that is not too long.
-- Internal: a contract behind the public ones; no public promise cites it.
use Rattle.std.specs.Prelude.{ℕ, ◌+◌, ◌≤◌, ◌<◌, List}
use Rattle.table.specs.Records.{record_count}

-- so many records from one on are within the table
pub record Section (bs : List ℕ) (from count : ℕ) : Type 0 where
  pub few : record_count bs ≤ 5_000
  pub within : (i : ℕ) → i < count → from + i < record_count bs
