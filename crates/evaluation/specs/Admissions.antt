-- What an evaluation of a sound table refuses before the walk, and what it gives after it.
-- Internal: a contract behind the public ones; no public promise cites it.
use Rattle.std.specs.Prelude.{◌≡◌, ℕ, List, leb, length, Result, Ok}
use Rattle.std.proofs.Math.Option.{Option, or_else}
use Rattle.language.specs.Readings.{Reading}
use Rattle.language.specs.Meaning.{Assignment}
use Rattle.answers.specs.Sections.{constraints}
use Rattle.answers.specs.Check as Check
use Rattle.answers.specs.Answers.{Outcome, outcome, refuse_unless, assignment_fault, total_cost, all_met_within, verdicts, evaluation_done}
use Rattle.verdict.specs.Results.{refusal_in}
use Rattle.evaluation.specs.declared.Refusal.{Refusal}
use Rattle.evaluation.specs.Results.{number_and_record}

module _ (table : List ℕ) (α : Assignment) where
  -- "Evaluate: then 10, 9, 11"
  unfoldable pub fault_before : ℕ → ℕ → Option Check.Refusal
  fault_before budget room =
      or_else (assignment_fault table α)
      (or_else (refuse_unless 9 (leb (length (constraints table)) room)) (refuse_unless 11 (leb (total_cost table) budget)))

  -- ", 8", or the bytes
  unfoldable pub outcome_after : Reading → List ℕ → Outcome
  outcome_after ρ lent =
      outcome (refuse_unless 8 (all_met_within table ρ α (constraints table))) (evaluation_done table ρ α) (verdicts table ρ α) lent

-- the refusal, or the total steps
pub record Admits (table : List ℕ) (α : Assignment) (budget room : ℕ) (r : Result ℕ Refusal) : Type 0 where
  pub fault : refusal_in number_and_record r ≡ fault_before table α budget room
  pub steps : (n : ℕ) → r ≡ Ok n → n ≡ total_cost table
