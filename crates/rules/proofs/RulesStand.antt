-- The rules over node numbers stand for the companions of trees: a row's rule, over the places of its operands' companions, stands for the
-- companions of the row's tree.
use Prim.Native.Nat.{ℕ, ◌<◌}
use mathlib.Core.List.{List}
use lib.ListN.{length, get_or}
use Rattle.language.specs.Syntax.{boolean, integer, iref, bref, Declarations}
use Rattle.language.specs.Readings.{Reading}
use Rattle.language.specs.Tables.{Row, constant_row, variable_row, slot_row, arith_row, divide_row, negate_row, bool_to_int_row, lookup_row, sum_row, truth_row, variable_b_row, lookup_b_row, connect_row, negation_row, compare_row, quantify_row, Tree, whole, bool, tree_at, tree_i, tree_b, fill, trees}
use Rattle.language.specs.Meaning.{array_at}
use Rattle.rules.specs.Rules.{Rule, numeric, logical, last, guard, index, rule}
use Rattle.rules.specs.Soundness.{IsNode, RowFits}
use Rattle.rules.specs.Writing.{Translated, rule_after}
use Rattle.rules.proofs.Companions.{guard_of, index_of, Vᵗ, Dᵗ, Pᵗ, Nᵗ}
use Rattle.rules.proofs.Nodes.{HasTree, IsNode→HasTree-whole, IsNode→HasTree-bool}
use Rattle.rules.proofs.Stands.{StandsI, constant-stands, variable-stands, slot-stands, arith-stands, negate-stands, bool_to_int-stands, lookup-stands, sum-stands, iref-stands, StandsB, truth-stands, variable_b-stands, lookup_b-stands, connect-stands, negation-stands, compare-stands, quantify-stands, bref-stands, divide_v-stands, divide_d-stands, inside-stands, clamped-stands, refuted-stands, connect_p-stands, connect_n-stands, quantify_p-stands, quantify_n-stands}

module _ (ρ : Reading) (Γ : Declarations) where
  -- the trees of a node's two companions: V or P, and D or N
  abbrev pub first_tree : Tree → Tree
  first_tree (whole e) = whole (Vᵗ ρ Γ e)
  first_tree (bool e) = bool (Pᵗ ρ Γ e)

  abbrev pub second_tree : Tree → Tree
  second_tree (whole e) = bool (Dᵗ ρ Γ e)
  second_tree (bool e) = bool (Nᵗ ρ Γ e)

  -- A node's companions stand in the rows at the places that t keeps for it.
  pub record Linked (done rows : List Row) (t : Translated) (k : ℕ) : Type 0 where
    pub first-tree : HasTree rows (get_or t.firsts k 0) (first_tree (tree_at (trees done) k))
    pub second-tree : HasTree rows (get_or t.seconds k 0) (second_tree (tree_at (trees done) k))

  module _ {done rows : List Row} {t : Translated} {k : ℕ} (linked : Linked done rows t k) where
    -- Of an integer node, V stands at the first place,
    pub V-place : IsNode done integer k → HasTree rows (get_or t.firsts k 0) (whole (Vᵗ ρ Γ (tree_i (trees done) k)))
    V-place n = rw (IsNode→HasTree-whole n).tree at linked.first-tree

    -- and D at the second.
    pub D-place : IsNode done integer k → HasTree rows (get_or t.seconds k 0) (bool (Dᵗ ρ Γ (tree_i (trees done) k)))
    D-place n = rw (IsNode→HasTree-whole n).tree at linked.second-tree

    -- Of a Boolean node, P stands at the first place,
    pub P-place : IsNode done boolean k → HasTree rows (get_or t.firsts k 0) (bool (Pᵗ ρ Γ (tree_b (trees done) k)))
    P-place n = rw (IsNode→HasTree-bool n).tree at linked.first-tree

    -- and N at the second.
    pub N-place : IsNode done boolean k → HasTree rows (get_or t.seconds k 0) (bool (Nᵗ ρ Γ (tree_b (trees done) k)))
    N-place n = rw (IsNode→HasTree-bool n).tree at linked.second-tree

  -- A rule's formulas stand for the companions of the tree; N's may refer to where P stands.
  abbrev pub RuleStands : List Row → Rule ℕ → Tree → Type 0
  RuleStands rows (numeric v d) (whole e) = StandsI Γ rows v (Vᵗ ρ Γ e) × StandsB Γ rows d (Dᵗ ρ Γ e)
  RuleStands rows (numeric v d) (bool e) = ⊥
  RuleStands rows (logical p n) (whole e) = ⊥
  RuleStands rows (logical p n) (bool e) =
      StandsB Γ rows p (Pᵗ ρ Γ e) × ((k : ℕ) → HasTree rows k (bool (Pᵗ ρ Γ e)) → StandsB Γ rows (n (bref k)) (Nᵗ ρ Γ e))

  module _ (done rows : List Row) (t : Translated) (linked : (k : ℕ) → k < length done → Linked done rows t k) where
    -- A reference to where an operand's V stands is V of its tree,
    V-stands : {a : ℕ} → IsNode done integer a → StandsI Γ rows (iref (get_or t.firsts a 0)) (Vᵗ ρ Γ (tree_i (trees done) a))
    V-stands {a} n = iref-stands (V-place (linked a n.earlier) n)

    -- one to where its D stands is D of its tree,
    D-stands : {a : ℕ} → IsNode done integer a → StandsB Γ rows (bref (get_or t.seconds a 0)) (Dᵗ ρ Γ (tree_i (trees done) a))
    D-stands {a} n = bref-stands (D-place (linked a n.earlier) n)

    -- one to where its P stands is P of its tree,
    P-stands : {a : ℕ} → IsNode done boolean a → StandsB Γ rows (bref (get_or t.firsts a 0)) (Pᵗ ρ Γ (tree_b (trees done) a))
    P-stands {a} n = bref-stands (P-place (linked a n.earlier) n)

    -- and one to where its N stands is N of its tree.
    N-stands : {a : ℕ} → IsNode done boolean a → StandsB Γ rows (bref (get_or t.seconds a 0)) (Nᵗ ρ Γ (tree_b (trees done) a))
    N-stands {a} n = bref-stands (N-place (linked a n.earlier) n)

    -- The rule of a row that fits stands for the companions of the row's tree.
    pub rule-stands : (r : Row) → RowFits Γ done r → RuleStands rows (rule_after ρ Γ t r) (fill (trees done) r)
    unfolding rule_after rule guard index fill Vᵗ guard_of index_of
    rule-stands (constant_row z) h = (constant-stands, truth-stands)
    rule-stands (variable_row v) h = (variable-stands h, truth-stands)
    rule-stands (slot_row s) h = (slot-stands h, truth-stands)
    rule-stands (arith_row op a b) h = (arith-stands (V-stands h.0) (V-stands h.1), connect-stands (D-stands h.0) (D-stands h.1))
    rule-stands (divide_row op a b) h =
        (divide_v-stands op (V-stands h.0) (V-stands h.1), divide_d-stands (D-stands h.0) (D-stands h.1) (V-stands h.1))
    rule-stands (negate_row a) h = (negate-stands (V-stands h), D-stands h)
    rule-stands (bool_to_int_row a) h = (bool_to_int-stands (P-stands h), connect-stands (P-stands h) (N-stands h))
    rule-stands (lookup_row A i) h =
        (lookup-stands h.0 (clamped-stands _ _ (V-stands h.1)), inside-stands _ _ (D-stands h.1) (V-stands h.1))
    rule-stands (sum_row s a) h = (sum-stands h.0 (V-stands h.1), quantify-stands h.0 (D-stands h.1))
    rule-stands (truth_row b) h = (truth-stands, λ k n. negation-stands (bref-stands n))
    rule-stands (variable_b_row v) h = (variable_b-stands h, λ k n. negation-stands (bref-stands n))
    rule-stands (lookup_b_row A i) h =
        let g = inside-stands (array_at Γ A).first (last (array_at Γ A)) (D-stands h.1) (V-stands h.1) in
        let e = lookup_b-stands h.0 (clamped-stands (array_at Γ A).first (last (array_at Γ A)) (V-stands h.1)) in
        (connect-stands g e, λ k n. refuted-stands ρ g e (bref-stands n))
    rule-stands (connect_row c a b) h = (
      connect_p-stands (P-stands h.0) (N-stands h.0) (P-stands h.1) (N-stands h.1) ρ c,
      λ k n. connect_n-stands (P-stands h.0) (N-stands h.0) (P-stands h.1) (N-stands h.1) ρ c,
    )
    rule-stands (negation_row a) h = (N-stands h, λ k n. P-stands h)
    rule-stands (compare_row c a b) h =
        let g = connect-stands (D-stands h.0) (D-stands h.1) in
        let e = compare-stands (V-stands h.0) (V-stands h.1) in
        (connect-stands g e, λ k n. refuted-stands ρ g e (bref-stands n))
    rule-stands (quantify_row q s a) h =
        (quantify_p-stands h.0 (P-stands h.1) (N-stands h.1) ρ q, λ k n. quantify_n-stands h.0 (P-stands h.1) (N-stands h.1) ρ q)
