-- The steps of each node of a checked table from those kept of the nodes before it.
use mathlib.Core.Path.{◌≡◌, refl, ap, ◌∙◌}
use mathlib.Core.Logic.{⊎_elim}
use Prim.Native.Nat.{ℕ, ◌+◌, ◌≤◌, ◌<◌}
use native.Mathlib.Omega.{arith}
use native.Mathlib.Decide.{dec_lt}
use mathlib.Core.Bool.{false}
use mathlib.Core.List.{List}
use lib.IntN.{ℤ, nat_abs}
use lib.ListN.{get_or, set, replicate, length-set, length-replicate}
use lib.Seq.{get_or-set_same, get_or-set_other}
use Rattle.numbers.proofs.Naturals.{lt_or_ge}
use Rattle.numbers.proofs.Lists.{get_d_replicate_same}
use Rattle.language.specs.Syntax.{boolean, integer}
use Rattle.language.specs.Tables.{truth_row, Tree, whole, bool, as_i, as_b, tree_at, tree_i, tree_b, fill, trees}
use Rattle.language.specs.Meaning.{slot_at, count}
use Rattle.language.specs.Steps.{cost_i, cost_b, cost}
use Rattle.language.proofs.Trees.{tree-at}
use Rattle.table.specs.Parts.{parts_of}
use Rattle.table.specs.declared.Record.{Record}
use Rattle.table.specs.Records.{kind_at, x_at, y_at}
use Rattle.table.specs.Kinds.{Field, unused, any_number, truth_value, variable_number, slot_number, array_number, node_number, kind_of}
use Rattle.answers.specs.Sections.{nodes_at, node_count, rows, node_trees, declarations}
use Rattle.answers.specs.Check.{node_sort, field_names, field_typed}
use Rattle.answers.proofs.Fields.{rows_below, names→, same_sort→≡, FieldFits→passed}
use Rattle.answers.proofs.KindsFit.{FieldFits}
use Rattle.answers.proofs.KindRows.{tree_sort, FieldBelow, by_fields}
use Rattle.answers.proofs.NodesFit.{NodePassed, none→NodePassed}
use Rattle.answers.proofs.NodeTrees.{row-some, tree-sort}
use Rattle.answers.proofs.Declared.{length-rows, get_d_rows}
use Rattle.answers.proofs.Passed.{check_fault≡none→Passed}
use Rattle.layout.specs.declared.checked_table.CheckedTable.{CheckedTable}
use Rattle.layout.proofs.Tables.{laid-in}
use Rattle.steps.specs.declared.Shape.{Shape}
use Rattle.steps.specs.Capped.{capped}
use Rattle.steps.specs.Shapes.{shape_of}
use Rattle.steps.specs.Kept.{Kept}
use Rattle.steps.proofs.Caps.{capped-≤}
use Rattle.steps.proofs.Shapes.{taken_over, FieldKept, kind-steps}

module _ (bs : List ℕ) where
  -- ---- operands

  -- a tree of the type that is asked for is taken as it is
  cost-integer : (t : Tree) → tree_sort t ≡ integer → cost (declarations bs) t ≡ cost_i (declarations bs) (as_i t)
  unfolding as_i cost
  cost-integer (whole e) q = refl
  cost-integer (bool e) q = cc

  cost-boolean : (t : Tree) → tree_sort t ≡ boolean → cost (declarations bs) t ≡ cost_b (declarations bs) (as_b t)
  unfolding as_b cost
  cost-boolean (whole e) q = cc
  cost-boolean (bool e) q = refl

  sort-named : (z : ℤ) → nat_abs z < node_count bs → tree_sort (tree_at (node_trees bs) (nat_abs z)) ≡ node_sort bs z
  unfolding node_sort
  sort-named z h = tree-sort bs (nat_abs z) h

  module _ {n : ℕ} {costs : List ℕ} (kept : Kept bs n costs) (within : n ≤ node_count bs) where
    -- What is kept of a field's node is what its user takes over.
    pub field_kept : (F : Field) (z : ℤ) → FieldFits (declarations bs) (rows_below bs n) F z → FieldKept (declarations bs) (node_trees bs) F z (get_or costs (nat_abs z) 0)
    unfolding field_names field_typed tree_i tree_b
    field_kept unused z h = tt
    field_kept any_number z h = tt
    field_kept truth_value z h = tt
    field_kept (variable_number t) z h = tt
    field_kept slot_number z h = tt
    field_kept (array_number t) z h = tt
    field_kept (node_number boolean) z h =
        let fits = FieldFits→passed bs n (node_number boolean) z h in
        let earlier = (names→ n z fits.1).1 in
        kept.before (nat_abs z) earlier ∙ ap capped (cost-boolean (tree_at (node_trees bs) (nat_abs z)) (sort-named z (omega arith) ∙ same_sort→≡ (node_sort bs z) boolean fits.2))
    field_kept (node_number integer) z h =
        let fits = FieldFits→passed bs n (node_number integer) z h in
        let earlier = (names→ n z fits.1).1 in
        kept.before (nat_abs z) earlier ∙ ap capped (cost-integer (tree_at (node_trees bs) (nat_abs z)) (sort-named z (omega arith) ∙ same_sort→≡ (node_sort bs z) integer fits.2))

  -- A field that fits names an earlier node, if it names one.
  field_below : (n : ℕ) (F : Field) (z : ℤ) → FieldFits (declarations bs) (rows_below bs n) F z → FieldBelow n F z
  unfolding field_names
  field_below n unused z h = tt
  field_below n any_number z h = tt
  field_below n truth_value z h = tt
  field_below n (variable_number t) z h = tt
  field_below n slot_number z h = tt
  field_below n (array_number t) z h = tt
  field_below n (node_number t) z h = (names→ n z (FieldFits→passed bs n (node_number t) z h).1).1

  -- ---- one node

  -- A node's tree is its record's row over the table's trees.
  node-tree : (n : ℕ) → n < node_count bs → (p : NodePassed bs n (nodes_at bs + n)) → tree_at (node_trees bs) n ≡ fill (node_trees bs) (p.kind.row (x_at bs (nodes_at bs + n)) (y_at bs (nodes_at bs + n)))
  unfolding node_trees
  node-tree n h p =
      let this_row = get_d_rows bs n (truth_row false) h ∙ row-some bs (nodes_at bs + n) p.kind_is in
      tree-at (rows bs) n (truth_row false) (rw length-rows h)
      (rw this_row ((by_fields (kind_at bs (nodes_at bs + n)) p.kind_is).below n _ _ (field_below n p.kind.field_x _ p.x_fits) (field_below n p.kind.field_y _ p.y_fits)))
      ∙ ap (fill (trees (rows bs))) this_row

  -- ---- the pass

  pub kept-none : {costs : List ℕ} → costs ≡ replicate 5_000 0 → Kept bs 0 costs
  kept-none e = rw e (record { sized = length-replicate {A = ℕ} 5_000 0; before = λ k h. absurd (omega arith); small = λ k. omega (arith, get_d_replicate_same {A = ℕ} 5_000 k 0) })

  module _ {n : ℕ} {costs : List ℕ} (w : Kept bs n costs) (h : n < 5_000) {v : ℕ} (e : v ≡ capped (cost (declarations bs) (tree_at (node_trees bs) n))) where
    set_here : (k : ℕ) → k ≡ n → get_or (set costs n v) k 0 ≡ v
    set_here k z = rw z (get_or-set_same costs n v 0 (omega (arith, w.sized)))

    set-elsewhere : (k : ℕ) → (k ≡ n → ⊥) → get_or (set costs n v) k 0 ≡ get_or costs k 0
    set-elsewhere k z = get_or-set_other costs n k v 0 z

    pub kept_more : Kept bs (n + 1) (set costs n v)
    kept_more =
        record {
          sized = length-set costs n v ∙ w.sized;
          before = λ k l. ⊎_elim (λ m. set-elsewhere k (λ z. omega arith) ∙ w.before k m) (λ m. let z : k ≡ n = omega arith in rw z (set_here n refl ∙ e)) (lt_or_ge k n);
          small = λ k. elim (dec_lt k n) [ yes l ↦ omega (arith, set-elsewhere k (λ z. omega arith), w.small k) | no l ↦ elim (dec_lt n k) [ yes m ↦ omega (arith, set-elsewhere k (λ z. omega arith), w.small k) | no m ↦ omega (arith, set_here k (omega arith), e, capped-≤ (cost (declarations bs) (tree_at (node_trees bs) n))) ] ];
        }

module _ (t : CheckedTable) {n : ℕ} {costs : List ℕ} (kept : Kept t.bytes.now n costs) (h : n < node_count t.bytes.now) where
  abbrev bytes : List ℕ
  bytes = t.bytes.now

  -- What the shape of a node's kind makes of the kept steps is the node's steps.
  pub node-capped : {r : Record} {shape : Shape} {x y a b : ℕ} → r ≡ parts_of bytes (t.at.nodes + n) → x ≡ nat_abs r.x → y ≡ nat_abs r.y →
      a ≡ get_or costs x 0 → b ≡ get_or costs y 0 → shape ≡ shape_of (kind_of r.kind)
      → capped (1 + taken_over shape a b (count (slot_at (declarations bytes) x))) ≡ capped (cost (declarations bytes) (tree_at (node_trees bytes) n))
  node-capped er ex ey ea eb es =
      let passed = none→NodePassed bytes n (nodes_at bytes + n) ((check_fault≡none→Passed bytes t.sound).nodes_passed n h) in
      let e = er ∙ ap (λ k. parts_of bytes (k + n)) (laid-in t).nodes in
      rw (es, ea, eb, ex, ey, e, passed.kind_is, node-tree bytes n h passed)
      ((kind-steps (kind_at bytes (nodes_at bytes + n)) passed.kind_is).steps (declarations bytes) (node_trees bytes) (x_at bytes (nodes_at bytes + n)) (y_at bytes (nodes_at bytes + n)) _ _
      (field_kept bytes kept (omega arith) passed.kind.field_x (x_at bytes (nodes_at bytes + n)) passed.x_fits)
      (field_kept bytes kept (omega arith) passed.kind.field_y (y_at bytes (nodes_at bytes + n)) passed.y_fits))
