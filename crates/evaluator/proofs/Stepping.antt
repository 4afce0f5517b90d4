-- One step of the walk: from a node's decoded case and what its operands gave to what the node gives.
use mathlib.Core.Path.{◌≡◌, sym, ap, subst, ◌∙◌}
use Prim.Native.Nat.{ℕ, ◌+◌, ◌*◌, ◌<◌}
use native.Mathlib.Omega.{arith}
use mathlib.Core.Bool.{true}
use mathlib.Core.List.{List}
use mathlib.Core.Option.{some}
use lib.IntN.{ℤ}
use mir.Syntax.{w32}
use mir.Val.{SFits}
use Rattle.numbers.proofs.Widths.{through, arrives}
use Rattle.language.specs.Tables.{Row, constant_row, variable_row, slot_row, arith_row, divide_row, negate_row, bool_to_int_row, lookup_row, sum_row, truth_row, variable_b_row, lookup_b_row, connect_row, negation_row, compare_row, quantify_row}
use Rattle.language.specs.Readings as readings
use Rattle.language.specs.Meaning.{Assignment}
use Rattle.answers.specs.Sections.{row_of}
use Rattle.operations.specs.declared.values.Walked.{Walked}
use Rattle.evaluator.specs.declared.decoded.IntegerNode.{IntegerNode}
use Rattle.evaluator.specs.declared.decoded.TruthNode.{TruthNode}
use Rattle.std.proofs.Common.{Option, Some}
use Rattle.table.specs.declared.Record.{Record}
use Rattle.table.specs.Kinds.{kind_of, row_in}
use Rattle.table.specs.Parts.{parts_of}
use Rattle.operations.specs.Values.{limited_to}
use Rattle.evaluator.specs.Nodes.{integer_case, truth_case}
use Rattle.evaluator.specs.declared.places.TablePlaces.{TablePlaces}
use Rattle.evaluator.specs.Walks.{row_at, Laid, setting_of, leaf_of, integer_at, truth_at}
use Rattle.evaluator.proofs.Cases.{IntegerBelow, TruthBelow, integer_of_case, truth_of_case, integer-node, truth-node, integer-operands, truth-operands}

-- ---- smaller numbers

-- The measures: 3n + 1 for a node, 3n + 2 for an operand or a walk over a slot's values. An operand's node is one of the table's.
pub to-operand : {t n a m : ℕ} → 3 * n + 1 ≡ t → n < m → a < n → (3 * a + 2 < t) × (a < m)
to-operand e l h = (omega arith, omega arith)

pub to-node : {t n a m : ℕ} → 3 * n + 1 ≡ t → n < m → a < n → (3 * a + 1 < t) × (a < m)
to-node e l h = (omega arith, omega arith)

-- ---- a node's case

leaf-row : (ρ : readings.Reading) (bs : List ℕ) (places : TablePlaces) (α : Assignment) (values : List ℤ) (r : Row) {m : Walked} → leaf_of α (setting_of values) r ≡ Some m →
    m ≡ integer_of_case ρ bs places α values (integer_case r)
unfolding leaf_of integer_case
leaf-row ρ bs places α values (constant_row z) e = cc
leaf-row ρ bs places α values (variable_row v) e = cc
leaf-row ρ bs places α values (slot_row s) e = cc
leaf-row ρ bs places α values (arith_row op a b) e = cc
leaf-row ρ bs places α values (divide_row op a b) e = cc
leaf-row ρ bs places α values (negate_row a) e = cc
leaf-row ρ bs places α values (bool_to_int_row a) e = cc
leaf-row ρ bs places α values (lookup_row A i) e = cc
leaf-row ρ bs places α values (sum_row s a) e = cc
leaf-row ρ bs places α values (truth_row b) e = cc
leaf-row ρ bs places α values (variable_b_row v) e = cc
leaf-row ρ bs places α values (lookup_b_row A i) e = cc
leaf-row ρ bs places α values (connect_row c a b) e = cc
leaf-row ρ bs places α values (negation_row a) e = cc
leaf-row ρ bs places α values (compare_row c a b) e = cc
leaf-row ρ bs places α values (quantify_row q s a) e = cc

module _ {bs : List ℕ} {places : TablePlaces} {n : ℕ} (l : Laid bs places) (h : n < places.node_count) where
  -- A leaf's value is the node's.
  pub leaf-case : (ρ : readings.Reading) (α : Assignment) (values : List ℤ) {c : Option Walked} {m : Walked} → c ≡ leaf_of α (setting_of values) (row_of bs (places.nodes_from + n)) → c ≡ Some m →
      m ≡ integer_at ρ bs places α values n
  unfolding row_at
  leaf-case ρ α values g e = leaf-row ρ bs places α values (row_of bs (places.nodes_from + n)) (sym g ∙ e) ∙ sym (integer-node ρ bs places α values n l h)

  -- A node whose record was read.
  module _ {r : Record} (e : r ≡ parts_of bs (places.nodes_from + n)) where
    read : row_in (kind_of r.kind) r.x r.y ≡ row_at bs places n
    unfolding row_at row_of
    read = rw e

    pub integer-smaller : {c d : IntegerNode} → c ≡ integer_case (row_in (kind_of r.kind) r.x r.y) → c ≡ d → IntegerBelow n d
    integer-smaller g i = subst (IntegerBelow n) (ap integer_case (sym read) ∙ sym g ∙ i) (integer-operands bs places n l h)

    pub truth-smaller : {c d : TruthNode} → c ≡ truth_case (row_in (kind_of r.kind) r.x r.y) → c ≡ d → TruthBelow n d
    truth-smaller g i = subst (TruthBelow n) (ap truth_case (sym read) ∙ sym g ∙ i) (truth-operands bs places n l h)

    pub integer-case : (ρ : readings.Reading) (α : Assignment) (values : List ℤ) {c d : IntegerNode} → c ≡ integer_case (row_in (kind_of r.kind) r.x r.y) → c ≡ d →
        integer_of_case ρ bs places α values d ≡ integer_at ρ bs places α values n
    integer-case ρ α values g i = ap (integer_of_case ρ bs places α values) (sym i ∙ g ∙ ap integer_case read) ∙ sym (integer-node ρ bs places α values n l h)

    pub truth-case : (ρ : readings.Reading) (α : Assignment) (values : List ℤ) {c d : TruthNode} → c ≡ truth_case (row_in (kind_of r.kind) r.x r.y) → c ≡ d →
        truth_of_case ρ bs places α values d ≡ truth_at ρ bs places α values n
    truth-case ρ α values g i = ap (truth_of_case ρ bs places α values) (sym i ∙ g ∙ ap truth_case read) ∙ sym (truth-node ρ bs places α values n l h)

-- ---- what an operation makes of its operands

-- One operand.
pub of_one : (F : Walked → Walked) {r x x' m : Walked} → r ≡ F x → x ≡ x' → F x' ≡ m → r ≡ m
of_one F h e g = h ∙ ap F e ∙ g

-- Two operands, the second walked with the slots' values that the first left, which are as they were.
pub of_two : (F : Walked → Walked → Walked) (at : List ℤ → ℕ → Walked) {r x y m : Walked} {a b : ℕ} {values left : List ℤ} →
    r ≡ F x y → x ≡ at values a → left ≡ values → y ≡ at left b → F (at values a) (at values b) ≡ m → r ≡ m
of_two F at h p k q g = cc

-- A leaf's number, handed on through its bits.
pub of_leaf : {z x : ℤ} {r m : Walked} → SFits w32 z → z ≡ x → r ≡ limited_to true (some (through z)) → limited_to true (some x) ≡ m → r ≡ m
of_leaf {z} f e h g = h ∙ ap (λ v. limited_to true (some v)) (arrives z f ∙ e) ∙ g
