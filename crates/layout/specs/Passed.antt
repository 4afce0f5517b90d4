-- What the code relies on in a checked table: whole records, few arrays, elements that end within the table, and kinds that exist.
-- Internal: a contract behind the public ones; no public promise cites it.
use Rattle.std.specs.Prelude.{◌≡◌, ℕ, ◌+◌, ◌%◌, ◌≤◌, ◌<◌, List, length}
use Rattle.numbers.specs.Limits.{most_bytes, most_arrays}
use Rattle.table.specs.Records.{record_size, record_count, kind_at}
use Rattle.answers.specs.Sections.{array_records, nodes_at, node_count}

pub record Passed (bs : List ℕ) : Type 0 where
  pub some_record : record_size ≤ length bs
  pub whole : length bs % record_size ≡ 0
  pub short : length bs ≤ most_bytes
  pub few_arrays : length (array_records bs) ≤ most_arrays
  pub inside : nodes_at bs ≤ record_count bs
  pub known_kinds : (n : ℕ) → n < node_count bs → kind_at bs (nodes_at bs + n) < 31
