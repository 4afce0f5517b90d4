-- A node and its tree: which tree stands at a place of a table, that rows behind change nothing, that a tree has its row's type, and
-- that in a well formed table each tree is its row filled from the table's own trees.
use mathlib.Core.Path.{◌≡◌, refl, sym, ap, ◌∙◌}
use Prim.Native.Nat.{ℕ, zero, suc, ◌<◌}
use native.Mathlib.Nat.{not-suc-le-zero, le_of_suc-le-suc}
use native.Mathlib.Omega.{arith}
use mathlib.Core.List.{List, [], ◌∷◌, ◌++◌, append-nil}
use lib.ListN.{length, get_or, take, length-append}
use lib.Seq.{append_snoc, length-take-le}
use Rattle.language.specs.Syntax.{Sort, boolean, integer, Declarations}
use Rattle.language.specs.Tables.{Row, constant_row, variable_row, slot_row, arith_row, divide_row, negate_row, bool_to_int_row, lookup_row, sum_row, truth_row, variable_b_row, lookup_b_row, connect_row, negation_row, compare_row, quantify_row, Tree, whole, bool, as_i, as_b, tree_at, tree_i, tree_b, fill, trees}
use Rattle.language.proofs.Trees.{tree_at-++, tree_at-snoc, tree_at-take, NamesBelow, tree-at}
use Rattle.rules.specs.Soundness.{sort_of, IsNode, RowFits, RowsFit, WellFormed}

-- ---- types

-- what a tree yields
abbrev pub sort_of_tree : Tree → Sort
sort_of_tree (whole e) = integer
sort_of_tree (bool e) = boolean

-- A row's tree yields what the row yields.
sort_of_tree-fill : (ts : List Tree) (r : Row) → sort_of_tree (fill ts r) ≡ sort_of r
unfolding fill sort_of
sort_of_tree-fill ts (constant_row z) = refl
sort_of_tree-fill ts (variable_row v) = refl
sort_of_tree-fill ts (slot_row s) = refl
sort_of_tree-fill ts (arith_row op a b) = refl
sort_of_tree-fill ts (divide_row op a b) = refl
sort_of_tree-fill ts (negate_row a) = refl
sort_of_tree-fill ts (bool_to_int_row a) = refl
sort_of_tree-fill ts (lookup_row A i) = refl
sort_of_tree-fill ts (sum_row s a) = refl
sort_of_tree-fill ts (truth_row b) = refl
sort_of_tree-fill ts (variable_b_row v) = refl
sort_of_tree-fill ts (lookup_b_row A i) = refl
sort_of_tree-fill ts (connect_row c a b) = refl
sort_of_tree-fill ts (negation_row a) = refl
sort_of_tree-fill ts (compare_row c a b) = refl
sort_of_tree-fill ts (quantify_row q s a) = refl

-- A node's tree yields what its row yields.
sort_of_tree-tree_at : (rows : List Row) (k : ℕ) (d : Row) → k < length rows → sort_of_tree (tree_at (trees rows) k) ≡ sort_of (get_or rows k d)
sort_of_tree-tree_at rows k d h = rw (tree_at-take rows k d h) (sort_of_tree-fill (trees (take k rows)) (get_or rows k d))

-- A tree that yields an integer is an integer expression.
whole-as_i : (t : Tree) → sort_of_tree t ≡ integer → t ≡ whole (as_i t)
unfolding as_i
whole-as_i (whole e) h = refl
whole-as_i (bool e) h = cc

-- A tree that yields a truth value is a Boolean expression.
bool-as_b : (t : Tree) → sort_of_tree t ≡ boolean → t ≡ bool (as_b t)
unfolding as_b
bool-as_b (whole e) h = cc
bool-as_b (bool e) h = refl

-- ---- a tree at a place

-- node k of the table is there, and this is its tree
pub record HasTree (rows : List Row) (k : ℕ) (t : Tree) : Type 0 where
  pub there : k < length rows
  pub tree : tree_at (trees rows) k ≡ t

-- Rows behind change nothing.
pub HasTree-++ : {rows : List Row} {k : ℕ} {t : Tree} → HasTree rows k t → (more : List Row) → HasTree (rows ++ more) k t
HasTree-++ {rows} {k} h more = record { there = simp length-append (omega (arith, h.there)); tree = tree_at-++ rows more k h.there ∙ h.tree }

-- The last row has the tree that it is filled to.
pub HasTree-snoc : (rows : List Row) (r : Row) {t : Tree} → fill (trees rows) r ≡ t → HasTree (rows ++ (r ∷ [])) (length rows) t
HasTree-snoc rows r e = record { there = simp length-append (omega arith); tree = tree_at-snoc rows r ∙ e }

-- A node with a tree is a node of that tree's type.
pub HasTree→IsNode : {rows : List Row} {k : ℕ} {t : Tree} → HasTree rows k t → IsNode rows (sort_of_tree t) k
HasTree→IsNode {rows} {k} h = record { earlier = h.there; typed = sym (sort_of_tree-tree_at rows k _ h.there) ∙ ap sort_of_tree h.tree }

-- An integer node has an integer expression for its tree.
pub IsNode→HasTree-whole : {rows : List Row} {k : ℕ} → IsNode rows integer k → HasTree rows k (whole (tree_i (trees rows) k))
unfolding tree_i
IsNode→HasTree-whole {rows} {k} n =
    record { there = n.earlier; tree = whole-as_i (tree_at (trees rows) k) (sort_of_tree-tree_at rows k _ n.earlier ∙ n.typed) }

-- A Boolean node has a Boolean expression for its tree.
pub IsNode→HasTree-bool : {rows : List Row} {k : ℕ} → IsNode rows boolean k → HasTree rows k (bool (tree_b (trees rows) k))
unfolding tree_b
IsNode→HasTree-bool {rows} {k} n =
    record { there = n.earlier; tree = bool-as_b (tree_at (trees rows) k) (sort_of_tree-tree_at rows k _ n.earlier ∙ n.typed) }

-- ---- well formed tables

-- A row that fits behind others names only nodes among them.
pub RowFits→NamesBelow : (Γ : Declarations) (before : List Row) (r : Row) → RowFits Γ before r → NamesBelow (length before) r
RowFits→NamesBelow Γ before (constant_row z) h = tt
RowFits→NamesBelow Γ before (variable_row v) h = tt
RowFits→NamesBelow Γ before (slot_row s) h = tt
RowFits→NamesBelow Γ before (arith_row op a b) h = (h.0.earlier, h.1.earlier)
RowFits→NamesBelow Γ before (divide_row op a b) h = (h.0.earlier, h.1.earlier)
RowFits→NamesBelow Γ before (negate_row a) h = h.earlier
RowFits→NamesBelow Γ before (bool_to_int_row a) h = h.earlier
RowFits→NamesBelow Γ before (lookup_row A i) h = h.1.earlier
RowFits→NamesBelow Γ before (sum_row s a) h = h.1.earlier
RowFits→NamesBelow Γ before (truth_row b) h = tt
RowFits→NamesBelow Γ before (variable_b_row v) h = tt
RowFits→NamesBelow Γ before (lookup_b_row A i) h = h.1.earlier
RowFits→NamesBelow Γ before (connect_row c a b) h = (h.0.earlier, h.1.earlier)
RowFits→NamesBelow Γ before (negation_row a) h = h.earlier
RowFits→NamesBelow Γ before (compare_row c a b) h = (h.0.earlier, h.1.earlier)
RowFits→NamesBelow Γ before (quantify_row q s a) h = h.1.earlier

-- Each row fits behind those before it.
pub RowsFit-at : (Γ : Declarations) (before rows : List Row) → RowsFit Γ before rows → (k : ℕ) (d : Row) → k < length rows
    → RowFits Γ (before ++ take k rows) (get_or rows k d)
RowsFit-at Γ before [] fit k d h = absurd (not-suc-le-zero h)
RowsFit-at Γ before (r ∷ rows) fit zero d h = rw append-nil fit.0
RowsFit-at Γ before (r ∷ rows) fit (suc k) d h = rw append_snoc at (RowsFit-at Γ (before ++ (r ∷ [])) rows fit.1 k d (le_of_suc-le-suc h))

-- In a well formed table the tree of a node is its row, filled from the table's own trees.
pub WellFormed→tree-at : {Γ : Declarations} {rows : List Row} → WellFormed Γ rows → (k : ℕ) (d : Row) → k < length rows
    → tree_at (trees rows) k ≡ fill (trees rows) (get_or rows k d)
WellFormed→tree-at {Γ} {rows} wf k d h =
    let below : NamesBelow (length (take k rows)) (get_or rows k d) =
    RowFits→NamesBelow Γ (take k rows) (get_or rows k d) (RowsFit-at Γ [] rows wf.rows_fit k d h) in
    tree-at rows k d h (rw (length-take-le k rows (omega arith)) at below)
