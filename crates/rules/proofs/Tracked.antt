-- The translation keeps track of its table, row by row: at the places kept for a node stand the companions of its tree, the rows written
-- fit, and where the parts of the companions are total, so is every tree written.
use mathlib.Core.Path.{◌≡◌, refl}
use Prim.Native.Nat.{ℕ, ◌<◌}
use native.Mathlib.Decide.{dec_lt}
use native.Mathlib.Nat.{not-suc-le-zero}
use native.Mathlib.Omega.{arith}
use mathlib.Core.List.{List, [], ◌∷◌, ◌++◌, append-nil, append_assoc}
use lib.ListN.{length, length-append, get_or-append}
use lib.Seq.{append_snoc, get_or_at}
use Rattle.language.specs.Syntax.{Declarations}
use Rattle.language.specs.Readings.{Reading}
use Rattle.language.specs.Tables.{Row, Tree, whole, bool, fill, trees}
use Rattle.language.specs.Meaning.{Assignment}
use Rattle.language.proofs.Trees.{trees-snoc, tree_at-++, tree_at-snoc}
use Rattle.rules.specs.Rules.{Rule, numeric, logical}
use Rattle.rules.specs.Soundness.{All, RowFits, RowsFit}
use Rattle.rules.specs.Writing.{Written, write_i, write_b, Companions, in_turn, write_rule, Translated, nothing_yet, rule_after, append, step, translate_after, translate_rows}
use Rattle.rules.proofs.Nodes.{HasTree, HasTree-++}
use Rattle.rules.proofs.Every.{All-unsnoc}
use Rattle.rules.proofs.Adding.{Adds, Adds-[], Adds-++, Adds-asking}
use Rattle.rules.proofs.WrittenOut.{AllTotalTree, WrittenOut, Keeps, written-I, written-B}
use Rattle.rules.proofs.RulesStand.{first_tree, second_tree, Linked, RuleStands, rule-stands}

module _ (ρ : Reading) (Γ : Declarations) where
  -- the parts of both companions of a tree are total
  abbrev pub CompanionsTotal : Assignment → Tree → Type 0
  CompanionsTotal α t = AllTotalTree Γ α (first_tree ρ Γ t) × AllTotalTree Γ α (second_tree ρ Γ t)

  -- ---- one node

  -- The rows may be added, and then both companions of the tree stand at their places.
  record CompanionsWritten (before : List Row) (t : Tree) (c : Companions) : Type 0 where
    adds : Adds Γ before c.rows (λ α. CompanionsTotal α t)
    first-tree : HasTree (before ++ c.rows) c.first (first_tree ρ Γ t)
    second-tree : HasTree (before ++ c.rows) c.second (second_tree ρ Γ t)

  -- One companion written behind the other.
  in_turn-written : {before : List Row} (t : Tree) {w v : Written} → WrittenOut Γ before (first_tree ρ Γ t) w
      → WrittenOut Γ (before ++ w.rows) (second_tree ρ Γ t) v → CompanionsWritten before t (in_turn w v)
  unfolding in_turn
  in_turn-written t {w} {v} h k =
      record {
        adds = Adds-++ Γ h.adds k.adds;
        first-tree = rw append_assoc at (HasTree-++ h.root_tree v.rows);
        second-tree = rw append_assoc at k.root_tree;
      }

  -- A rule that stands for a tree's companions, wherever the rows before are kept, is written out right.
  write_rule-written : (before : List Row) (rule : Rule ℕ) (t : Tree) → ((rows : List Row) → Keeps before rows → RuleStands ρ Γ rows rule t)
      → CompanionsWritten before t (write_rule rule (length before))
  unfolding write_rule
  write_rule-written before (numeric v d) (whole e) stands =
      let w : Written = write_i v (length before) in
      let now : List Row = before ++ w.rows in
      let first = written-I Γ before (stands before (λ k t n. n)).0 before (λ k t n. n) in
      let second = written-B Γ now (stands now (λ k t n. HasTree-++ n w.rows)).1 now (λ k t n. n) in
      in_turn-written (whole e) first (rw length-append at second)
  write_rule-written before (numeric v d) (bool e) stands = absurd (stands before (λ k t n. n))
  write_rule-written before (logical p f) (whole e) stands = absurd (stands before (λ k t n. n))
  write_rule-written before (logical p f) (bool e) stands =
      let w : Written = write_b p (length before) in
      let now : List Row = before ++ w.rows in
      let first = written-B Γ before (stands before (λ k t n. n)).0 before (λ k t n. n) in
      let second = written-B Γ now ((stands now (λ k t n. HasTree-++ n w.rows)).1 w.root first.root_tree) now (λ k t n. n) in
      in_turn-written (bool e) first (rw length-append at second)

  -- ---- all nodes

  -- t is what the translation has after the rows done.
  pub record Tracked (done : List Row) (t : Translated) : Type 0 where
    pub adds : Adds Γ [] t.rows (λ α. All (CompanionsTotal α) (trees done))
    pub length_firsts : length t.firsts ≡ length done
    pub length_seconds : length t.seconds ≡ length done
    pub linked : (k : ℕ) → k < length done → Linked ρ Γ done t.rows t k

  -- A link holds wherever the rows are kept.
  Linked-keeps : {done rows now : List Row} {t : Translated} {k : ℕ} → Keeps rows now → Linked ρ Γ done rows t k → Linked ρ Γ done now t k
  Linked-keeps keeps l = record { first-tree = keeps _ _ l.first-tree; second-tree = keeps _ _ l.second-tree }

  module _ (done : List Row) (t : Translated) (r : Row) (c : Companions)
      (h : Tracked done t) (w : CompanionsWritten t.rows (fill (trees done) r) c) where
    -- Nodes before keep their links.
    Linked-before : (k : ℕ) → k < length done → Linked ρ Γ (done ++ (r ∷ [])) (t.rows ++ c.rows) (append ρ Γ t c) k
    unfolding append
    Linked-before k l =
        let kept : Linked ρ Γ done (t.rows ++ c.rows) t k = Linked-keeps (λ j s n. HasTree-++ n c.rows) (h.linked k l) in
        record {
          first-tree = rw (get_or-append t.firsts (c.first ∷ []) 0 k (rw h.length_firsts l), tree_at-++ done (r ∷ []) k l) kept.first-tree;
          second-tree = rw (get_or-append t.seconds (c.second ∷ []) 0 k (rw h.length_seconds l), tree_at-++ done (r ∷ []) k l) kept.second-tree;
        }

    -- The last node is linked to what was written for it.
    Linked-last : Linked ρ Γ (done ++ (r ∷ [])) (t.rows ++ c.rows) (append ρ Γ t c) (length done)
    unfolding append
    Linked-last =
        record {
          first-tree = rw (get_or_at t.firsts c.first [] 0 (length done) h.length_firsts, tree_at-snoc done r) w.first-tree;
          second-tree = rw (get_or_at t.seconds c.second [] 0 (length done) h.length_seconds, tree_at-snoc done r) w.second-tree;
        }

    -- So every node is linked.
    Linked-all : (k : ℕ) → k < length (done ++ (r ∷ [])) → Dec (k < length done)
        → Linked ρ Γ (done ++ (r ∷ [])) (t.rows ++ c.rows) (append ρ Γ t c) k
    Linked-all k l (yes b) = Linked-before k b
    Linked-all k l (no b) = let e : k ≡ length done = omega (arith, rw length-append at l) in rw e Linked-last

    -- One more node is tracked.
    append-tracked : Tracked (done ++ (r ∷ [])) (append ρ Γ t c)
    unfolding append
    append-tracked =
        record {
          adds = Adds-asking Γ (λ α all. All-unsnoc (CompanionsTotal α) (trees done) (rw trees-snoc at all)) (Adds-++ Γ h.adds w.adds);
          length_firsts = simp length-append (omega (arith, h.length_firsts));
          length_seconds = simp length-append (omega (arith, h.length_seconds));
          linked = λ k l. Linked-all k l (dec_lt k (length done));
        }

  -- The rule of a row that fits is written out right.
  rule_after-written : (done : List Row) (t : Translated) (r : Row) → RowFits Γ done r → Tracked done t
      → CompanionsWritten t.rows (fill (trees done) r) (write_rule (rule_after ρ Γ t r) (length t.rows))
  rule_after-written done t r fits h =
      write_rule-written t.rows (rule_after ρ Γ t r) (fill (trees done) r)
      (λ rows keeps. rule-stands ρ Γ done rows t (λ k l. Linked-keeps keeps (h.linked k l)) r fits)

  -- Handling one more row that fits keeps track.
  step-tracked : (done : List Row) (t : Translated) (r : Row) → RowFits Γ done r → Tracked done t → Tracked (done ++ (r ∷ [])) (step ρ Γ t r)
  unfolding step
  step-tracked done t r fits h = append-tracked done t r _ h (rule_after-written done t r fits h)

  -- Handling more rows that fit keeps track.
  translate_after-tracked : (done : List Row) (t : Translated) (rows : List Row) → RowsFit Γ done rows → Tracked done t
      → Tracked (done ++ rows) (translate_after ρ Γ t rows)
  unfolding translate_after
  translate_after-tracked done t [] fit h = rw append-nil h
  translate_after-tracked done t (r ∷ rows) fit h =
      rw append_snoc at (translate_after-tracked (done ++ (r ∷ [])) (step ρ Γ t r) rows fit.1 (step-tracked done t r fit.0 h))

  -- The translation of a table whose rows fit tracks it.
  pub translate_rows-tracked : (rows : List Row) → RowsFit Γ [] rows → Tracked rows (translate_rows ρ Γ rows)
  unfolding translate_rows nothing_yet
  translate_rows-tracked rows fit =
      translate_after-tracked [] nothing_yet rows fit
      (record { adds = Adds-[] Γ [] _; length_firsts = refl; length_seconds = refl; linked = λ k l. absurd (not-suc-le-zero l) })
