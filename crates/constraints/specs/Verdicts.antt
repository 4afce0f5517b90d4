-- What one assignment makes of a table's constraints, as the code has it.
-- Internal: a contract behind the public ones; no public promise cites it.
use Rattle.std.specs.Prelude.{ℕ, ◌-◌, ◌≤◌, ◌<◌, cond, List, ◌++◌, length, replicate, Option, Some, None}
use Rattle.language.specs.Readings.{Reading}
use Rattle.language.specs.Tables.{tree_b}
use Rattle.language.specs.Meaning.{Assignment}
use Rattle.answers.specs.Sections.{constraints_at, rest_at, declarations, node_trees, constraints}
use Rattle.answers.specs.Answers.{unset, all_met_within, verdicts, all_one}
use Rattle.operations.specs.declared.values.Walked.{Walked}
use Rattle.evaluator.specs.Walks.{truth_walked}
use Rattle.constraints.specs.declared.Verdicts.{Verdicts}

-- what the walk over node k gives, as a constraint
unfoldable pub walked_at : List ℕ → Reading → Assignment → ℕ → Walked
walked_at table ρ α k = truth_walked ρ (declarations table) α (tree_b (node_trees table) k) unset

-- p is the record of a constraint
pub record ConstraintAt (table : List ℕ) (p : ℕ) : Type 0 where
  pub from : constraints_at table ≤ p
  pub before : p < rest_at table

-- the constraints' bytes and 0 behind them, and whether all are 1; beyond the limit nothing
unfoldable pub verdicts_of : List ℕ → Reading → Assignment → Option Verdicts
verdicts_of table ρ α =
    cond (all_met_within table ρ α (constraints table))
    (Some (record { bytes = verdicts table ρ α ++ replicate (5000 - length (verdicts table ρ α)) 0; all = all_one (verdicts table ρ α) }))
    None
