-- Laws of a table's trees: how many there are, what one more row adds, that rows behind change nothing before them, and that each
-- tree is its row filled from the table's own trees.
use mathlib.Core.Path.{◌≡◌, refl, sym, ap, ◌∙◌}
use Prim.Native.Nat.{ℕ, suc, ◌+◌, ◌≤◌, ◌<◌}
use native.Mathlib.Omega.{arith}
use mathlib.Core.List.{List, [], ◌∷◌, ◌++◌}
use lib.ListN.{length, get_or, take, drop, length-append, take-append-drop, get_or-append}
use lib.Seq.{append_snoc, get_or_at, split_at, length-take-le}
use Rattle.language.specs.Tables.{Row, constant_row, variable_row, slot_row, arith_row, divide_row, negate_row, bool_to_int_row, lookup_row, sum_row, truth_row, variable_b_row, lookup_b_row, connect_row, negation_row, compare_row, quantify_row, Tree, tree_at, tree_i, tree_b, fill, trees_after, trees}

-- ---- more rows

-- Rows can be filled in two goes.
trees_after-++ : (ts : List Tree) (rs qs : List Row) → trees_after ts (rs ++ qs) ≡ trees_after (trees_after ts rs) qs
unfolding trees_after
trees_after-++ ts [] qs = refl
trees_after-++ ts (r ∷ rs) qs = trees_after-++ (ts ++ (fill ts r ∷ [])) rs qs

-- One more row adds its tree, filled from those before.
pub trees-snoc : (rs : List Row) (r : Row) → trees (rs ++ (r ∷ [])) ≡ trees rs ++ (fill (trees rs) r ∷ [])
unfolding trees trees_after
trees-snoc rs r = trees_after-++ [] rs (r ∷ [])

-- Each row has one tree, behind those given.
length-trees_after : (ts : List Tree) (rs : List Row) → length (trees_after ts rs) ≡ length ts + length rs
unfolding trees_after
length-trees_after ts [] = omega arith
length-trees_after ts (r ∷ rs) = length-trees_after (ts ++ (fill ts r ∷ [])) rs ∙ simp length-append (omega arith)

-- A table has as many trees as rows.
pub length-trees : (rs : List Row) → length (trees rs) ≡ length rs
unfolding trees
length-trees rs = length-trees_after [] rs ∙ omega arith

-- Rows behind change no tree before them.
tree_at-trees_after : (ts : List Tree) (rs : List Row) (k : ℕ) → k < length ts → tree_at (trees_after ts rs) k ≡ tree_at ts k
unfolding trees_after tree_at
tree_at-trees_after ts [] k h = refl
tree_at-trees_after ts (r ∷ rs) k h =
    tree_at-trees_after (ts ++ (fill ts r ∷ [])) rs k (simp length-append (omega arith)) ∙ get_or-append ts (fill ts r ∷ []) _ k h

-- A table keeps its trees when rows are added.
pub tree_at-++ : (rs qs : List Row) (k : ℕ) → k < length rs → tree_at (trees (rs ++ qs)) k ≡ tree_at (trees rs) k
unfolding trees
tree_at-++ rs qs k h = rw trees_after-++ (tree_at-trees_after (trees rs) qs k (rw length-trees h))

-- The tree of the last row is filled from those before it.
pub tree_at-snoc : (rs : List Row) (r : Row) → tree_at (trees (rs ++ (r ∷ []))) (length rs) ≡ fill (trees rs) r
unfolding tree_at
tree_at-snoc rs r = rw trees-snoc (get_or_at (trees rs) (fill (trees rs) r) [] _ (length rs) (length-trees rs))

-- A row in the middle of a table has the tree that it had as the last one.
tree_at-middle : (rs : List Row) (r : Row) (qs : List Row) (k : ℕ) → length rs ≡ k → tree_at (trees (rs ++ (r ∷ qs))) k ≡ fill (trees rs) r
tree_at-middle rs r qs k e =
    rw (← e, ← append_snoc) (tree_at-++ (rs ++ (r ∷ [])) qs (length rs) (simp length-append (omega arith)) ∙ tree_at-snoc rs r)

-- The tree of a node is its row, filled from the trees of the rows before it.
pub tree_at-take : (rs : List Row) (k : ℕ) (d : Row) → k < length rs → tree_at (trees rs) k ≡ fill (trees (take k rs)) (get_or rs k d)
tree_at-take rs k d h =
    ap (λ (l : List Row). tree_at (trees l) k) (split_at rs k d h) ∙
    tree_at-middle (take k rs) (get_or rs k d) (drop (suc k) rs) k (length-take-le k rs (omega arith))

-- ---- a table's trees by its own rows

-- the nodes that a row names have numbers below k
abbrev pub NamesBelow : ℕ → Row → Type 0
NamesBelow k (constant_row z) = Unit {0}
NamesBelow k (variable_row v) = Unit {0}
NamesBelow k (slot_row s) = Unit {0}
NamesBelow k (arith_row op a b) = (a < k) × (b < k)
NamesBelow k (divide_row op a b) = (a < k) × (b < k)
NamesBelow k (negate_row a) = a < k
NamesBelow k (bool_to_int_row a) = a < k
NamesBelow k (lookup_row A i) = i < k
NamesBelow k (sum_row s a) = a < k
NamesBelow k (truth_row b) = Unit {0}
NamesBelow k (variable_b_row v) = Unit {0}
NamesBelow k (lookup_b_row A i) = i < k
NamesBelow k (connect_row c a b) = (a < k) × (b < k)
NamesBelow k (negation_row a) = a < k
NamesBelow k (compare_row c a b) = (a < k) × (b < k)
NamesBelow k (quantify_row q s a) = a < k

-- A row is filled alike from lists that agree below k, where it names nothing else.
fill-agree : (ts us : List Tree) (k : ℕ) → ((j : ℕ) → j < k → tree_at ts j ≡ tree_at us j) → (r : Row) → NamesBelow k r → fill ts r ≡ fill us r
unfolding fill tree_i tree_b
fill-agree ts us k same (constant_row z) h = refl
fill-agree ts us k same (variable_row v) h = refl
fill-agree ts us k same (slot_row s) h = refl
fill-agree ts us k same (arith_row op a b) h = rw (same a h.0, same b h.1)
fill-agree ts us k same (divide_row op a b) h = rw (same a h.0, same b h.1)
fill-agree ts us k same (negate_row a) h = rw (same a h)
fill-agree ts us k same (bool_to_int_row a) h = rw (same a h)
fill-agree ts us k same (lookup_row A i) h = rw (same i h)
fill-agree ts us k same (sum_row s a) h = rw (same a h)
fill-agree ts us k same (truth_row b) h = refl
fill-agree ts us k same (variable_b_row v) h = refl
fill-agree ts us k same (lookup_b_row A i) h = rw (same i h)
fill-agree ts us k same (connect_row c a b) h = rw (same a h.0, same b h.1)
fill-agree ts us k same (negation_row a) h = rw (same a h)
fill-agree ts us k same (compare_row c a b) h = rw (same a h.0, same b h.1)
fill-agree ts us k same (quantify_row q s a) h = rw (same a h)

-- The rows before node k have the trees that they have in the whole table.
tree_at-of-take : (rs : List Row) (k j : ℕ) → j < k → k ≤ length rs → tree_at (trees rs) j ≡ tree_at (trees (take k rs)) j
tree_at-of-take rs k j l h =
    ap (λ (l : List Row). tree_at (trees l) j) (sym (take-append-drop k rs)) ∙ tree_at-++ (take k rs) (drop k rs) j (rw length-take-le l)

-- The tree of a node is its row, filled from the table's own trees: "An operand node has a smaller number than its user."
pub tree-at : (rs : List Row) (k : ℕ) (d : Row) → k < length rs → NamesBelow k (get_or rs k d) → tree_at (trees rs) k ≡ fill (trees rs) (get_or rs k d)
tree-at rs k d h below =
    tree_at-take rs k d h ∙ fill-agree (trees (take k rs)) (trees rs) k (λ j l. sym (tree_at-of-take rs k j l (omega arith))) (get_or rs k d) below
