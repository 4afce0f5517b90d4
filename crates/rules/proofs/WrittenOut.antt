-- Writing a formula out: after the rows that it adds, the tree at its root is the tree that the formula stands for.
use mathlib.Core.Path.{◌≡◌, refl}
use Prim.Native.Nat.{ℕ, ◌+◌}
use mathlib.Core.List.{List, [], ◌++◌, append_assoc}
use lib.ListN.{length, length-append}
use Rattle.language.specs.Syntax.{IExp, constant, variable, slot, arith, divide, negate, bool_to_int, lookup, sum, BExp, truth, variable_b, lookup_b, connect, negation, compare, quantify, Declarations}
use Rattle.language.specs.Tables.{Row, constant_row, variable_row, slot_row, arith_row, divide_row, negate_row, bool_to_int_row, lookup_row, sum_row, truth_row, variable_b_row, lookup_b_row, connect_row, negation_row, compare_row, quantify_row, Tree, whole, bool, as_i, as_b, tree_at, tree_i, tree_b, fill, trees}
use Rattle.language.specs.Meaning.{Assignment}
use Rattle.rules.specs.Soundness.{IsNode, RowFits}
use Rattle.rules.specs.Writing.{Written, leaf, unary, binary, write_i, write_b}
use Rattle.rules.proofs.Claims.{AllTotalI, AllTotalB, TotalTree}
use Rattle.rules.proofs.Nodes.{sort_of_tree, HasTree, HasTree-++, HasTree-snoc, HasTree→IsNode}
use Rattle.rules.proofs.Stands.{StandsI, constant-stands, variable-stands, slot-stands, arith-stands, divide-stands, negate-stands, bool_to_int-stands, lookup-stands, sum-stands, iref-stands, StandsB, truth-stands, variable_b-stands, lookup_b-stands, connect-stands, negation-stands, compare-stands, quantify-stands, bref-stands}
use Rattle.rules.proofs.Adding.{Adds, Adds-[], Adds-row, Adds-++, Adds-asking}

module _ (Γ : Declarations) where
  -- the tree and every expression below it are total
  abbrev pub AllTotalTree : Assignment → Tree → Type 0
  AllTotalTree α (whole e) = AllTotalI Γ α e
  AllTotalTree α (bool e) = AllTotalB Γ α e

  -- The rows may be added, asking for total parts of the tree; then the tree stands at the root.
  pub record WrittenOut (before : List Row) (t : Tree) (w : Written) : Type 0 where
    pub adds : Adds Γ before w.rows (λ α. AllTotalTree α t)
    pub root_tree : HasTree (before ++ w.rows) w.root t

  -- A leaf is one row.
  leaf-written : (before : List Row) (r : Row) (t : Tree) → RowFits Γ before r → fill (trees before) r ≡ t
      → ((α : Assignment) → AllTotalTree α t → TotalTree Γ α t) → WrittenOut before t (leaf (length before) r)
  unfolding leaf
  leaf-written before r t f e parts =
      record { adds = Adds-asking Γ parts (Adds-row Γ before r f e); root_tree = HasTree-snoc before r e }

  -- One operand: its rows, and a row over its root.
  unary-written : {before : List Row} {s : Tree} {w : Written} → WrittenOut before s w → (r : ℕ → Row) (t : Tree)
      → ((rows : List Row) (k : ℕ) → IsNode rows (sort_of_tree s) k → RowFits Γ rows (r k))
      → ((ts : List Tree) (k : ℕ) → tree_at ts k ≡ s → fill ts (r k) ≡ t)
      → ((α : Assignment) → AllTotalTree α t → AllTotalTree α s × TotalTree Γ α t) → WrittenOut before t (unary (length before) w r)
  unfolding unary
  unary-written {before} {s} {w} h r t fits filled parts =
      let now : List Row = before ++ w.rows in
      let e : fill (trees now) (r w.root) ≡ t = filled (trees now) w.root h.root_tree.tree in
      record {
        adds = Adds-asking Γ parts (Adds-++ Γ h.adds (Adds-row Γ now (r w.root) (fits now w.root (HasTree→IsNode h.root_tree)) e));
        root_tree = rw (append_assoc, length-append) at (HasTree-snoc now (r w.root) e);
      }

  -- Two operands: the rows of the first, those of the second, and a row over both roots.
  binary-written : {before : List Row} {s u : Tree} {w : Written} → WrittenOut before s w → (next : ℕ → Written)
      → WrittenOut (before ++ w.rows) u (next (length (before ++ w.rows))) → (r : ℕ → ℕ → Row) (t : Tree)
      → ((rows : List Row) (k l : ℕ) → IsNode rows (sort_of_tree s) k → IsNode rows (sort_of_tree u) l → RowFits Γ rows (r k l))
      → ((ts : List Tree) (k l : ℕ) → tree_at ts k ≡ s → tree_at ts l ≡ u → fill ts (r k l) ≡ t)
      → ((α : Assignment) → AllTotalTree α t → AllTotalTree α s × AllTotalTree α u × TotalTree Γ α t)
      → WrittenOut before t (binary (length before) w next r)
  unfolding binary
  binary-written {before} {s} {u} {w} h next k r t fits filled parts =
      let v : Written = next (length before + length w.rows) in
      let second : WrittenOut (before ++ w.rows) u v = rw length-append at k in
      let now : List Row = before ++ w.rows ++ v.rows in
      let row : Row = r w.root v.root in
      let first-tree : HasTree now w.root s = HasTree-++ h.root_tree v.rows in
      let fit : RowFits Γ now row = fits now w.root v.root (HasTree→IsNode first-tree) (HasTree→IsNode second.root_tree) in
      let e : fill (trees now) row ≡ t = filled (trees now) w.root v.root first-tree.tree second.root_tree.tree in
      record {
        adds = Adds-asking Γ (λ α all. ((parts α all).0, ((parts α all).1, (parts α all).2)))
            (Adds-++ Γ h.adds (Adds-++ Γ second.adds (Adds-row Γ now row fit e)));
        root_tree = simp (append_assoc, length-append) at (HasTree-snoc now row e);
      }

-- the nodes of one table have the same trees in another
abbrev pub Keeps : List Row → List Row → Type 0
Keeps rows before = (k : ℕ) (t : Tree) → HasTree rows k t → HasTree before k t

-- What is kept stays kept with rows behind.
Keeps-++ : {rows before : List Row} → Keeps rows before → (more : List Row) → Keeps rows (before ++ more)
Keeps-++ keeps more k t n = HasTree-++ (keeps k t n) more

module _ (Γ : Declarations) (rows : List Row) where
  mutual
    unfolding write_i fill tree_i tree_b as_i as_b AllTotalI TotalTree

    -- An integer formula written behind its table: at its root stands the tree that it stands for.
    pub written-I : {f : IExp ℕ} {e : IExp ⊥} → StandsI Γ rows f e → (before : List Row) → Keeps rows before
        → WrittenOut Γ before (whole e) (write_i f (length before))
    written-I (constant-stands {z}) before keeps = leaf-written Γ before (constant_row z) (whole (constant z)) tt refl (λ α all. all)
    written-I (variable-stands {v} d) before keeps = leaf-written Γ before (variable_row v) (whole (variable v)) d refl (λ α all. all)
    written-I (slot-stands {s} d) before keeps = leaf-written Γ before (slot_row s) (whole (slot s)) d refl (λ α all. all)
    written-I (arith-stands {op} {g} {a} {b} l r) before keeps =
        binary-written Γ (written-I l before keeps) (write_i g) (written-I r _ (Keeps-++ keeps _)) (arith_row op)
        (whole (arith op a b)) (λ rs k m n o. (n, o)) (λ ts k m d e. rw (d, e)) (λ α all. all)
    written-I (divide-stands {op} {g} {a} {b} l r) before keeps =
        binary-written Γ (written-I l before keeps) (write_i g) (written-I r _ (Keeps-++ keeps _)) (divide_row op)
        (whole (divide op a b)) (λ rs k m n o. (n, o)) (λ ts k m d e. rw (d, e)) (λ α all. all)
    written-I (negate-stands {a} l) before keeps =
        unary-written Γ (written-I l before keeps) negate_row (whole (negate a)) (λ rs k n. n) (λ ts k e. rw e) (λ α all. all)
    written-I (bool_to_int-stands {a} l) before keeps =
        unary-written Γ (written-B l before keeps) bool_to_int_row (whole (bool_to_int a)) (λ rs k n. n) (λ ts k e. rw e) (λ α all. all)
    written-I (lookup-stands {A} {i} d l) before keeps =
        unary-written Γ (written-I l before keeps) (lookup_row A) (whole (lookup A i)) (λ rs k n. (d, n)) (λ ts k e. rw e) (λ α all. all)
    written-I (sum-stands {s} {a} d l) before keeps =
        unary-written Γ (written-I l before keeps) (sum_row s) (whole (sum s a)) (λ rs k n. (d, n)) (λ ts k e. rw e) (λ α all. all)
    written-I (iref-stands {k} {a} n) before keeps = record { adds = Adds-[] Γ before _; root_tree = HasTree-++ (keeps k (whole a) n) [] }

    -- A Boolean formula likewise.
    pub written-B : {f : BExp ℕ} {e : BExp ⊥} → StandsB Γ rows f e → (before : List Row) → Keeps rows before
        → WrittenOut Γ before (bool e) (write_b f (length before))
    written-B (truth-stands {b}) before keeps = leaf-written Γ before (truth_row b) (bool (truth b)) tt refl (λ α all. all)
    written-B (variable_b-stands {v} d) before keeps = leaf-written Γ before (variable_b_row v) (bool (variable_b v)) d refl (λ α all. all)
    written-B (lookup_b-stands {A} {i} d l) before keeps =
        unary-written Γ (written-I l before keeps) (lookup_b_row A) (bool (lookup_b A i)) (λ rs k n. (d, n)) (λ ts k e. rw e) (λ α all. all)
    written-B (connect-stands {c} {g} {a} {b} l r) before keeps =
        binary-written Γ (written-B l before keeps) (write_b g) (written-B r _ (Keeps-++ keeps _)) (connect_row c)
        (bool (connect c a b)) (λ rs k m n o. (n, o)) (λ ts k m d e. rw (d, e)) (λ α all. all)
    written-B (negation-stands {a} l) before keeps =
        unary-written Γ (written-B l before keeps) negation_row (bool (negation a)) (λ rs k n. n) (λ ts k e. rw e) (λ α all. all)
    written-B (compare-stands {c} {g} {a} {b} l r) before keeps =
        binary-written Γ (written-I l before keeps) (write_i g) (written-I r _ (Keeps-++ keeps _)) (compare_row c)
        (bool (compare c a b)) (λ rs k m n o. (n, o)) (λ ts k m d e. rw (d, e)) (λ α all. all)
    written-B (quantify-stands {q} {s} {a} d l) before keeps =
        unary-written Γ (written-B l before keeps) (quantify_row q s) (bool (quantify q s a)) (λ rs k n. (d, n)) (λ ts k e. rw e) (λ α all. all)
    written-B (bref-stands {k} {a} n) before keeps = record { adds = Adds-[] Γ before _; root_tree = HasTree-++ (keeps k (bool a) n) [] }
