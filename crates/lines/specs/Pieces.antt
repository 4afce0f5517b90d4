-- How long a line of a listing can be, and the line of a refusal.
-- Internal: a contract behind the public ones; no public promise cites it.
use Rattle.std.specs.Prelude.{ℕ, List}
use Rattle.answers.specs.Listing.{refusal_line}

-- a mark of two letters, two numbers of at most three digits, two of at most ten and a sign, four spaces and a newline
abbrev pub longest_line : ℕ
longest_line = 35

-- `refused`, two numbers of at most ten digits, two spaces and a newline
abbrev pub longest_refusal : ℕ
longest_refusal = 30

-- the line of a refusal with this number at this record
abbrev pub refusal_text : ℕ → ℕ → List ℕ
refusal_text n k = refusal_line (record { number = n; at = k })
