-- How long a listing can be.
-- Internal: no public promise cites it; the contract of `list` bounds its text by `longest_text` besides.
use Rattle.std.specs.Prelude.{ℕ}

-- 5,000 records, of at most 35 bytes each
abbrev pub longest_text : ℕ
longest_text = 175_000
