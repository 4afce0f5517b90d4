-- A translation under a reading, whatever number chose it.
-- Internal: a contract behind the public ones; no public promise cites it.
use Rattle.std.specs.Prelude.{◌≡◌, ℕ, List}
use Rattle.std.proofs.Math.Option.{some}
use Rattle.language.specs.Readings.{Reading}
use Rattle.answers.specs.Answers as Answers
use Rattle.answers.specs.Answers.{Outcome, reading_of}

-- the outcome of every choice of the reading ρ
abbrev pub TranslatesUnder : Reading → List ℕ → List ℕ → Outcome → Type 0
TranslatesUnder ρ table lent o = (choice : ℕ) → reading_of choice ≡ some ρ → o ≡ Answers.translate choice table lent
