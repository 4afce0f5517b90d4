-- Steps as the code holds them: exact up to the largest budget of 32 bits, and one number for all beyond.
-- Internal: a contract behind the public ones; no public promise cites it.
use Rattle.std.specs.Prelude.{ℕ, cond, ltb}

-- 2^32: more than every budget
abbrev pub past_budgets : ℕ
past_budgets = 4_294_967_296

unfoldable pub capped : ℕ → ℕ
capped n = cond (ltb n past_budgets) n past_budgets
