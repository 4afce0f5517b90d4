-- What the pass over the nodes keeps of the nodes before.
-- Internal: a contract behind the public ones; no public promise cites it.
use Rattle.std.specs.Prelude.{◌≡◌, ℕ, ◌≤◌, ◌<◌, List, length, get_or}
use Rattle.language.specs.Tables.{tree_at}
use Rattle.language.specs.Steps.{cost}
use Rattle.answers.specs.Sections.{declarations, node_trees}
use Rattle.steps.specs.Capped.{past_budgets, capped}

-- The steps of the first n nodes are kept, and nothing kept is beyond the cap.
pub record Kept (bs : List ℕ) (n : ℕ) (costs : List ℕ) : Type 0 where
  pub sized : length costs ≡ 5_000
  pub before : (k : ℕ) → k < n → get_or costs k 0 ≡ capped (cost (declarations bs) (tree_at (node_trees bs) k))
  pub small : (k : ℕ) → get_or costs k 0 ≤ past_budgets
