-- A table made ready for the walk: its bytes in an array of fixed length, and where its sections lie.
-- Internal: a contract behind the public ones; no public promise cites it.
use Rattle.std.specs.Prelude.{◌≡◌, ℕ, ◌-◌, ◌<◌, List, ◌++◌, length, get_or, replicate}
use Rattle.numbers.specs.Limits.{most_bytes, most_arrays}
use Rattle.answers.specs.Sections.{slots_at, nodes_at, slot_count, array_records, node_count}
use Rattle.evaluator.specs.declared.places.TablePlaces.{TablePlaces}

-- the table's bytes, and 0 behind them
unfoldable pub padded : List ℕ → List ℕ
padded bs = bs ++ replicate (most_bytes - length bs) 0

-- the record of each array, 0 past the last one, and where slots and nodes begin and how many of each there are
pub record PlacesOf (bs : List ℕ) (places : TablePlaces) : Type 0 where
  pub wide : length places.arrays ≡ most_arrays
  pub arrays : (a : ℕ) → a < most_arrays → get_or places.arrays a 0 ≡ get_or (array_records bs) a 0
  pub slots : places.slots_from ≡ slots_at bs
  pub slot_total : places.slot_count ≡ slot_count bs
  pub array_count : places.array_count ≡ length (array_records bs)
  pub nodes : places.nodes_from ≡ nodes_at bs
  pub node_total : places.node_count ≡ node_count bs
