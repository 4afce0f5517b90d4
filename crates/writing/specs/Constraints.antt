-- The constraints of the new table over the positions that are kept.
-- Internal: a contract behind the public ones; no public promise cites it.
use Rattle.std.specs.Prelude.{ℕ, List, [], ◌∷◌, ◌++◌, get_or}
use Rattle.table.specs.Records.{CN, first_letter, second_letter}
use Rattle.translator.specs.Cells.{record_of}

-- "Each CN becomes P of its node."
unfoldable pub constraints_over : List ℕ → List ℕ → List ℕ
constraints_over firsts [] = []
constraints_over firsts (k ∷ ks) = record_of (first_letter CN) (second_letter CN) 0 (get_or firsts k 0) 0 ++ constraints_over firsts ks
