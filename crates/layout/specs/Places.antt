-- Where the arrays of a table stand, as the code holds it.
-- Internal: a contract behind the public ones; no public promise cites it.
use Rattle.std.specs.Prelude.{◌≡◌, ℕ, List, get_or}
use Rattle.answers.specs.Sections.{array_records}

-- the record of each array, 0 past the last one
pub record ArraysHeld (bs places : List ℕ) : Type 0 where
  pub held : (a : ℕ) → get_or places a 0 ≡ get_or (array_records bs) a 0
