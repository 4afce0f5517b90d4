-- Demand 3 over decoded rows: what is shown of the translation of a well formed table within its bounds, under a chosen reading ρ, at every
-- reading ρ' of the new table, every assignment within the domains and every setting that gives each slot a value of its interval.
use Rattle.std.specs.Prelude.{◌≡◌, ℕ, Bool, true, false, List, T, ℤ, get_or}
use Rattle.std.proofs.Math.Option.{Option, none, some}
use Rattle.numbers.specs.Whole.{within_limit}
use Rattle.language.specs.Syntax.{boolean, integer, Declarations}
use Rattle.language.specs.Readings.{Reading, relational}
use Rattle.language.specs.Tables.{Row, Tree, whole, bool, tree_i, tree_b, trees}
use Rattle.language.specs.Meaning.{Assignment, Setting, value_i, value_b, met_within_i, met_within_b}
use Rattle.rules.specs.Bounds.{interval}
use Rattle.rules.specs.Soundness.{Within, All, IsNode}
use Rattle.rules.specs.Writing.{translate_rows}

-- ---- values

unfoldable pub defined : {A : Type 0} → Option A → Bool
defined (some a) = true
defined none = false

unfoldable pub is_true : Option Bool → Bool
is_true (some b) = b
is_true none = false

unfoldable pub is_false : Option Bool → Bool
is_false (some true) = false
is_false (some false) = true
is_false none = false

-- a node has a value under ρ at σ: an integer within the limit, or a truth value
abbrev pub HasValue : Reading → Declarations → Assignment → Setting → Tree → Type 0
HasValue ρ Γ α σ (whole e) = (z : ℤ) × (value_i ρ Γ α e σ ≡ some z) × T (within_limit z)
HasValue ρ Γ α σ (bool e) = (b : Bool) × (value_b ρ Γ α e σ ≡ some b)

-- evaluating a node meets no number beyond the limit
abbrev pub StaysWithin : Reading → Declarations → Assignment → Setting → Tree → Type 0
StaysWithin ρ Γ α σ (whole e) = T (met_within_i ρ Γ α e σ)
StaysWithin ρ Γ α σ (bool e) = T (met_within_b ρ Γ α e σ)

-- ---- the new table

module _ (ρ : Reading) (Γ : Declarations) (rows : List Row) where
  abbrev pub new_rows : List Row
  new_rows = (translate_rows ρ Γ rows).rows

  -- the places of V or P of an old node, and of D or N
  abbrev pub first_of : ℕ → ℕ
  first_of k = get_or (translate_rows ρ Γ rows).firsts k 0

  abbrev pub second_of : ℕ → ℕ
  second_of k = get_or (translate_rows ρ Γ rows).seconds k 0

-- ---- the demand

module _ (ρ ρ' : Reading) (Γ : Declarations) (α : Assignment) (σ : Setting) (rows : List Row) where
  -- V has a value and it lies in the node's interval; D is true exactly where the node is defined under ρ, and then V is its value.
  pub record NumberTold (k : ℕ) : Type 0 where
    pub value : ℤ
    pub V_is : value_i ρ' Γ α (tree_i (trees (new_rows ρ Γ rows)) (first_of ρ Γ rows k)) σ ≡ some value
    pub V_within : Within (interval Γ (tree_i (trees rows) k)) value
    pub D_is : value_b ρ' Γ α (tree_b (trees (new_rows ρ Γ rows)) (second_of ρ Γ rows k)) σ ≡ some (defined (value_i ρ Γ α (tree_i (trees rows) k) σ))
    pub V_agrees : (z : ℤ) → value_i ρ Γ α (tree_i (trees rows) k) σ ≡ some z → value ≡ z

  -- P is true exactly where the node is true under ρ, N exactly where it is false: under relational, where it is never undefined, where it
  -- is not true.
  pub record TruthTold (k : ℕ) : Type 0 where
    pub P_is : value_b ρ' Γ α (tree_b (trees (new_rows ρ Γ rows)) (first_of ρ Γ rows k)) σ ≡ some (is_true (value_b ρ Γ α (tree_b (trees rows) k) σ))
    pub N_is : value_b ρ' Γ α (tree_b (trees (new_rows ρ Γ rows)) (second_of ρ Γ rows k)) σ ≡ some (is_false (value_b ρ Γ α (tree_b (trees rows) k) σ))
    pub relational_defined : ρ ≡ relational → T (defined (value_b ρ Γ α (tree_b (trees rows) k) σ))

  -- Every node of the new table has a value, auxiliary ones included, reached or not, and the companions of every old node tell what that
  -- node is.
  pub record TotalRows : Type 0 where
    pub values : All (HasValue ρ' Γ α σ) (trees (new_rows ρ Γ rows))
    pub numbers : (k : ℕ) → IsNode rows integer k → NumberTold k
    pub truths : (k : ℕ) → IsNode rows boolean k → TruthTold k
