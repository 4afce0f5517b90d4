-- The trees of a well formed table whose intervals are within the limit are sound.
use Prim.Native.Nat.{ℕ}
use mathlib.Core.List.{List, [], ◌∷◌, ◌++◌}
use lib.Dec.{T}
use Rattle.numbers.specs.Whole.{within_limit}
use Rattle.language.specs.Syntax.{Declarations}
use Rattle.language.specs.Tables.{Row, constant_row, variable_row, slot_row, arith_row, divide_row, negate_row, bool_to_int_row, lookup_row, sum_row, truth_row, variable_b_row, lookup_b_row, connect_row, negation_row, compare_row, quantify_row, Tree, whole, bool, as_i, as_b, tree_at, tree_i, tree_b, fill, trees_after, trees}
use Rattle.rules.specs.Bounds.{only, interval, within_bounds}
use Rattle.rules.specs.Soundness.{All, RowFits, RowsFit, WellFormed, Bounded}
use Rattle.rules.proofs.Claims.{SoundI, SoundB, SoundTree}
use Rattle.rules.proofs.Every.{All-snoc, All-unsnoc, All-get_d}

-- What holds of all trees holds of those that were there before the rows.
All-trees_after : (P : Tree → Type 0) (ts : List Tree) (rows : List Row) → All P (trees_after ts rows) → All P ts
unfolding trees_after
All-trees_after P ts [] h = h
All-trees_after P ts (r ∷ rows) h = (All-unsnoc P ts (All-trees_after P (ts ++ (fill ts r ∷ [])) rows h)).0

module _ (Γ : Declarations) where
  -- A sound tree read as an integer is sound.
  SoundI-as_i : (t : Tree) → SoundTree Γ t → SoundI Γ (as_i t)
  unfolding SoundTree SoundI as_i within_bounds interval only within_limit
  SoundI-as_i (whole e) h = h
  SoundI-as_i (bool e) h = tt

  -- A sound tree read as a truth value is sound.
  SoundB-as_b : (t : Tree) → SoundTree Γ t → SoundB Γ (as_b t)
  unfolding SoundTree SoundB as_b
  SoundB-as_b (whole e) h = tt
  SoundB-as_b (bool e) h = h

  module _ (ts : List Tree) (sound : All (SoundTree Γ) ts) where
    -- Every tree of the list is sound, and so is what stands for none.
    SoundTree-tree_at : (k : ℕ) → SoundTree Γ (tree_at ts k)
    unfolding tree_at SoundTree SoundI within_bounds interval only within_limit
    SoundTree-tree_at = All-get_d (SoundTree Γ) ts _ sound tt

    -- An operand read as an integer is sound.
    pub SoundI-tree_i : (k : ℕ) → SoundI Γ (tree_i ts k)
    unfolding tree_i
    SoundI-tree_i k = SoundI-as_i (tree_at ts k) (SoundTree-tree_at k)

    -- An operand read as a truth value is sound.
    pub SoundB-tree_b : (k : ℕ) → SoundB Γ (tree_b ts k)
    unfolding tree_b
    SoundB-tree_b k = SoundB-as_b (tree_at ts k) (SoundTree-tree_at k)

    -- A row that fits, filled from sound trees and within its bounds, is sound.
    SoundTree-fill : (before : List Row) (r : Row) → RowFits Γ before r → T (within_bounds Γ (fill ts r)) → SoundTree Γ (fill ts r)
    unfolding fill SoundTree SoundI
    SoundTree-fill before (constant_row z) h b = b
    SoundTree-fill before (variable_row v) h b = (h, b)
    SoundTree-fill before (slot_row s) h b = (h, b)
    SoundTree-fill before (arith_row op k l) h b = (SoundI-tree_i k, SoundI-tree_i l, b)
    SoundTree-fill before (divide_row op k l) h b = (SoundI-tree_i k, SoundI-tree_i l, b)
    SoundTree-fill before (negate_row k) h b = (SoundI-tree_i k, b)
    SoundTree-fill before (bool_to_int_row k) h b = SoundB-tree_b k
    SoundTree-fill before (lookup_row A k) h b = (h.0, SoundI-tree_i k, b)
    SoundTree-fill before (sum_row s k) h b = (h.0, SoundI-tree_i k, b)
    SoundTree-fill before (truth_row v) h b = tt
    SoundTree-fill before (variable_b_row v) h b = h
    SoundTree-fill before (lookup_b_row A k) h b = (h.0, SoundI-tree_i k)
    SoundTree-fill before (connect_row c k l) h b = (SoundB-tree_b k, SoundB-tree_b l)
    SoundTree-fill before (negation_row k) h b = SoundB-tree_b k
    SoundTree-fill before (compare_row c k l) h b = (SoundI-tree_i k, SoundI-tree_i l)
    SoundTree-fill before (quantify_row q s k) h b = (h.0, SoundB-tree_b k)

  -- Rows that fit and keep their bounds have sound trees, behind sound trees.
  SoundTree-trees_after : (before : List Row) (ts : List Tree) (rows : List Row) → All (SoundTree Γ) ts → RowsFit Γ before rows
      → Bounded Γ (trees_after ts rows) → All (SoundTree Γ) (trees_after ts rows)
  unfolding trees_after
  SoundTree-trees_after before ts [] sound fit b = sound
  SoundTree-trees_after before ts (r ∷ rows) sound fit b =
      let more : List Tree = ts ++ (fill ts r ∷ []) in
      let bounded : Bounded Γ more = All-trees_after (λ t. T (within_bounds Γ t)) more rows b in
      let last-sound : SoundTree Γ (fill ts r) = SoundTree-fill ts sound before r fit.0 (All-unsnoc (λ t. T (within_bounds Γ t)) ts bounded).1 in
      SoundTree-trees_after (before ++ (r ∷ [])) more rows (All-snoc (SoundTree Γ) ts sound last-sound) fit.1 b

  -- Every tree of a well formed table within its bounds is sound.
  pub SoundTree-trees : (rows : List Row) → WellFormed Γ rows → Bounded Γ (trees rows) → All (SoundTree Γ) (trees rows)
  unfolding trees
  SoundTree-trees rows wf b = SoundTree-trees_after [] [] rows tt wf.rows_fit b
