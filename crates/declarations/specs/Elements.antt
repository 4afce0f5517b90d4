-- What the check of the elements needs to know of the variables.
-- Internal: a contract behind the public ones; no public promise cites it.
use Rattle.std.specs.Prelude.{◌≡◌, List, ℕ, ◌+◌, ◌%◌, ◌≤◌, ◌<◌, length}
use Rattle.table.specs.Records.{record_size, record_count}
use Rattle.answers.specs.Sections.{variable_count}

-- a table of whole records, not too many, and its number of variables
pub record Variables (bs : List ℕ) (variables : ℕ) : Type 0 where
  pub few : record_count bs ≤ 5_000
  pub whole : length bs % record_size ≡ 0
  pub counted : variables ≡ variable_count bs
  pub within : (v : ℕ) → v < variables → 1 + v < record_count bs
