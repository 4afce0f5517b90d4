-- What the walk over a node gives, from its decoded case; and the operands of a case have smaller numbers.
use mathlib.Core.Path.{◌≡◌, refl, ap, ◌∙◌}
use Prim.Native.Nat.{ℕ, ◌<◌}
use mathlib.Core.Bool.{true, false}
use mathlib.Core.List.{List}
use mathlib.Core.Option.{some}
use lib.IntN.{ℤ}
use lib.ListN.{get_or}
use Rattle.numbers.specs.Whole.{within_limit}
use Rattle.language.specs.Syntax as syntax
use Rattle.language.specs.Tables.{Row, constant_row, variable_row, slot_row, arith_row, divide_row, negate_row, bool_to_int_row, lookup_row, sum_row, truth_row, variable_b_row, lookup_b_row, connect_row, negation_row, compare_row, quantify_row, as_i, as_b, tree_i, tree_b, tree_at, fill, trees}
use Rattle.language.specs.Readings as readings
use Rattle.language.specs.Readings.{arithmetic, division}
use Rattle.language.specs.Meaning.{Assignment, is_one, value_of, value_i, value_b, value_within, met_within_i, met_within_b}
use Rattle.language.proofs.Trees.{tree-at, NamesBelow}
use Rattle.answers.specs.Sections.{listed}
use Rattle.operations.specs.declared.values.Value.TheVariants.{Truth}
use Rattle.operations.specs.declared.values.Walked.{Walked}
use Rattle.evaluator.specs.declared.decoded.IntegerNode.{IntegerNode}
use Rattle.evaluator.specs.declared.decoded.IntegerNode.TheVariants as integer
use Rattle.evaluator.specs.declared.decoded.TruthNode.{TruthNode}
use Rattle.evaluator.specs.declared.decoded.TruthNode.TheVariants as truth
use Rattle.operations.specs.Values.{integer_of, of_walk, limited_to}
use Rattle.operations.specs.Integers.{arithmetic_of, division_of, integers, negated, numbered}
use Rattle.operations.specs.Truths.{comparison_of, connective_of, compared, connected, opposed}
use Rattle.evaluator.specs.Nodes.{integer_case, truth_case}
use Rattle.evaluator.specs.declared.places.TablePlaces.{TablePlaces}
use Rattle.evaluator.specs.Walks.{declared, row_at, trees_of, Laid, setting_of, quantifier_of, integer_walked, truth_walked, looked_up, looked_up_truth, integer_at, truth_at, sum_at, quantified_at}
use Rattle.answers.proofs.Listed.{length-listed, get_d_listed}
use Rattle.evaluator.proofs.Walking.{walked_arith, walked_divide, walked_negate, walked_number, walked_lookup, walked_connect, walked_not, walked_compare, walked_lookup_b}

-- ---- smaller numbers

-- the operands of a case have numbers below n
abbrev pub IntegerBelow : ℕ → IntegerNode → Type 0
IntegerBelow n (integer.Constant v) = Unit {0}
IntegerBelow n (integer.Variable v) = Unit {0}
IntegerBelow n (integer.Slot s) = Unit {0}
IntegerBelow n (integer.Calculated op a b) = (a.0 < n) × (b.0 < n)
IntegerBelow n (integer.Divided op a b) = (a.0 < n) × (b.0 < n)
IntegerBelow n (integer.Negate a) = a.0 < n
IntegerBelow n (integer.BoolToInt a) = a.0 < n
IntegerBelow n (integer.Lookup A a) = a.0 < n
IntegerBelow n (integer.Sum s a) = a.0 < n

abbrev pub TruthBelow : ℕ → TruthNode → Type 0
TruthBelow n (truth.Constant v) = Unit {0}
TruthBelow n (truth.Variable v) = Unit {0}
TruthBelow n (truth.Connected op a b) = (a.0 < n) × (b.0 < n)
TruthBelow n (truth.Compared op a b) = (a.0 < n) × (b.0 < n)
TruthBelow n (truth.Lookup A a) = a.0 < n
TruthBelow n (truth.Not a) = a.0 < n
TruthBelow n (truth.Quantified q s a) = a.0 < n

integer-below : (n : ℕ) (r : Row) → NamesBelow n r → IntegerBelow n (integer_case r)
unfolding integer_case
integer-below n (constant_row z) h = h
integer-below n (variable_row v) h = h
integer-below n (slot_row s) h = h
integer-below n (arith_row syntax.plus a b) h = h
integer-below n (arith_row syntax.minus a b) h = h
integer-below n (arith_row syntax.times a b) h = h
integer-below n (arith_row syntax.minimum a b) h = h
integer-below n (arith_row syntax.maximum a b) h = h
integer-below n (divide_row syntax.quot a b) h = h
integer-below n (divide_row syntax.rem a b) h = h
integer-below n (negate_row a) h = h
integer-below n (bool_to_int_row a) h = h
integer-below n (lookup_row A i) h = h
integer-below n (sum_row s a) h = h
integer-below n (truth_row b) h = tt
integer-below n (variable_b_row v) h = tt
integer-below n (lookup_b_row A i) h = tt
integer-below n (connect_row c a b) h = tt
integer-below n (negation_row a) h = tt
integer-below n (compare_row c a b) h = tt
integer-below n (quantify_row q s a) h = tt

truth-below : (n : ℕ) (r : Row) → NamesBelow n r → TruthBelow n (truth_case r)
unfolding truth_case
truth-below n (truth_row b) h = h
truth-below n (variable_b_row v) h = h
truth-below n (lookup_b_row A i) h = h
truth-below n (connect_row syntax.conj a b) h = h
truth-below n (connect_row syntax.disj a b) h = h
truth-below n (connect_row syntax.implies a b) h = h
truth-below n (connect_row syntax.iff a b) h = h
truth-below n (negation_row a) h = h
truth-below n (compare_row syntax.equal a b) h = h
truth-below n (compare_row syntax.unequal a b) h = h
truth-below n (compare_row syntax.at_most a b) h = h
truth-below n (compare_row syntax.below a b) h = h
truth-below n (quantify_row syntax.exists s a) h = h
truth-below n (quantify_row syntax.forall s a) h = h
truth-below n (constant_row z) h = tt
truth-below n (variable_row v) h = tt
truth-below n (slot_row s) h = tt
truth-below n (arith_row op a b) h = tt
truth-below n (divide_row op a b) h = tt
truth-below n (negate_row a) h = tt
truth-below n (bool_to_int_row a) h = tt
truth-below n (lookup_row A i) h = tt
truth-below n (sum_row s a) h = tt

-- ---- the walk over a case

module _ (ρ : readings.Reading) (bs : List ℕ) (places : TablePlaces) (α : Assignment) (values : List ℤ) where
  abbrev pub integer_of_case : IntegerNode → Walked
  integer_of_case (integer.Constant v) = limited_to true (integer_of v)
  integer_of_case (integer.Variable v) = limited_to true (some (value_of α v.0))
  integer_of_case (integer.Slot s) = limited_to true (some (setting_of values s.0))
  integer_of_case (integer.Calculated op a b) = integers (λ x y. some (arithmetic (arithmetic_of op) x y)) (integer_at ρ bs places α values a.0) (integer_at ρ bs places α values b.0)
  integer_of_case (integer.Divided op a b) = integers (division (division_of op)) (integer_at ρ bs places α values a.0) (integer_at ρ bs places α values b.0)
  integer_of_case (integer.Negate a) = negated (integer_at ρ bs places α values a.0)
  integer_of_case (integer.BoolToInt a) = numbered (truth_at ρ bs places α values a.0)
  integer_of_case (integer.Lookup A i) = looked_up readings.strict (declared bs places) α A.0 (integer_at ρ bs places α values i.0)
  integer_of_case (integer.Sum s a) = sum_at ρ bs places α values s.0 a.0

  abbrev pub truth_of_case : TruthNode → Walked
  truth_of_case (truth.Constant v) = of_walk true v
  truth_of_case (truth.Variable v) = of_walk true (Truth (is_one (value_of α v.0)))
  truth_of_case (truth.Lookup A i) = looked_up_truth ρ (declared bs places) α A.0 (integer_at ρ bs places α values i.0)
  truth_of_case (truth.Connected op a b) = connected ρ (connective_of op) (truth_at ρ bs places α values a.0) (truth_at ρ bs places α values b.0)
  truth_of_case (truth.Not a) = opposed (truth_at ρ bs places α values a.0)
  truth_of_case (truth.Compared op a b) = compared ρ (comparison_of op) (integer_at ρ bs places α values a.0) (integer_at ρ bs places α values b.0)
  truth_of_case (truth.Quantified q s a) = quantified_at ρ bs places α values (quantifier_of q) s.0 a.0

  -- A filled row, walked as an integer, is its case.
  filled-integer : (r : Row) → integer_walked ρ (declared bs places) α (as_i (fill (trees_of bs places) r)) (setting_of values) ≡ integer_of_case (integer_case r)
  unfolding integer_case as_i fill integer_at truth_at integer_walked value_i met_within_i limited_to value_within sum_at within_limit truth_walked
  filled-integer (constant_row z) = refl
  filled-integer (variable_row v) = refl
  filled-integer (slot_row s) = refl
  filled-integer (arith_row syntax.plus a b) = walked_arith ρ (declared bs places) α (setting_of values) syntax.plus (tree_i (trees_of bs places) a) (tree_i (trees_of bs places) b)
  filled-integer (arith_row syntax.minus a b) = walked_arith ρ (declared bs places) α (setting_of values) syntax.minus (tree_i (trees_of bs places) a) (tree_i (trees_of bs places) b)
  filled-integer (arith_row syntax.times a b) = walked_arith ρ (declared bs places) α (setting_of values) syntax.times (tree_i (trees_of bs places) a) (tree_i (trees_of bs places) b)
  filled-integer (arith_row syntax.minimum a b) = walked_arith ρ (declared bs places) α (setting_of values) syntax.minimum (tree_i (trees_of bs places) a) (tree_i (trees_of bs places) b)
  filled-integer (arith_row syntax.maximum a b) = walked_arith ρ (declared bs places) α (setting_of values) syntax.maximum (tree_i (trees_of bs places) a) (tree_i (trees_of bs places) b)
  filled-integer (divide_row syntax.quot a b) = walked_divide ρ (declared bs places) α (setting_of values) syntax.quot (tree_i (trees_of bs places) a) (tree_i (trees_of bs places) b)
  filled-integer (divide_row syntax.rem a b) = walked_divide ρ (declared bs places) α (setting_of values) syntax.rem (tree_i (trees_of bs places) a) (tree_i (trees_of bs places) b)
  filled-integer (negate_row a) = walked_negate ρ (declared bs places) α (setting_of values) (tree_i (trees_of bs places) a)
  filled-integer (bool_to_int_row a) = walked_number ρ (declared bs places) α (setting_of values) (tree_b (trees_of bs places) a)
  filled-integer (lookup_row A i) = walked_lookup ρ (declared bs places) α (setting_of values) A (tree_i (trees_of bs places) i)
  filled-integer (sum_row s a) = refl
  filled-integer (truth_row b) = refl
  filled-integer (variable_b_row v) = refl
  filled-integer (lookup_b_row A i) = refl
  filled-integer (connect_row c a b) = refl
  filled-integer (negation_row a) = refl
  filled-integer (compare_row c a b) = refl
  filled-integer (quantify_row q s a) = refl

  filled-truth : (r : Row) → truth_walked ρ (declared bs places) α (as_b (fill (trees_of bs places) r)) (setting_of values) ≡ truth_of_case (truth_case r)
  unfolding truth_case as_b fill integer_at truth_at integer_walked truth_walked value_b met_within_b quantified_at
  filled-truth (truth_row b) = refl
  filled-truth (variable_b_row v) = refl
  filled-truth (lookup_b_row A i) = walked_lookup_b ρ (declared bs places) α (setting_of values) A (tree_i (trees_of bs places) i)
  filled-truth (connect_row syntax.conj a b) = walked_connect ρ (declared bs places) α (setting_of values) syntax.conj (tree_b (trees_of bs places) a) (tree_b (trees_of bs places) b)
  filled-truth (connect_row syntax.disj a b) = walked_connect ρ (declared bs places) α (setting_of values) syntax.disj (tree_b (trees_of bs places) a) (tree_b (trees_of bs places) b)
  filled-truth (connect_row syntax.implies a b) = walked_connect ρ (declared bs places) α (setting_of values) syntax.implies (tree_b (trees_of bs places) a) (tree_b (trees_of bs places) b)
  filled-truth (connect_row syntax.iff a b) = walked_connect ρ (declared bs places) α (setting_of values) syntax.iff (tree_b (trees_of bs places) a) (tree_b (trees_of bs places) b)
  filled-truth (negation_row a) = walked_not ρ (declared bs places) α (setting_of values) (tree_b (trees_of bs places) a)
  filled-truth (compare_row syntax.equal a b) = walked_compare ρ (declared bs places) α (setting_of values) syntax.equal (tree_i (trees_of bs places) a) (tree_i (trees_of bs places) b)
  filled-truth (compare_row syntax.unequal a b) = walked_compare ρ (declared bs places) α (setting_of values) syntax.unequal (tree_i (trees_of bs places) a) (tree_i (trees_of bs places) b)
  filled-truth (compare_row syntax.at_most a b) = walked_compare ρ (declared bs places) α (setting_of values) syntax.at_most (tree_i (trees_of bs places) a) (tree_i (trees_of bs places) b)
  filled-truth (compare_row syntax.below a b) = walked_compare ρ (declared bs places) α (setting_of values) syntax.below (tree_i (trees_of bs places) a) (tree_i (trees_of bs places) b)
  filled-truth (quantify_row syntax.exists s a) = refl
  filled-truth (quantify_row syntax.forall s a) = refl
  filled-truth (constant_row z) = refl
  filled-truth (variable_row v) = refl
  filled-truth (slot_row s) = refl
  filled-truth (arith_row op a b) = refl
  filled-truth (divide_row op a b) = refl
  filled-truth (negate_row a) = refl
  filled-truth (bool_to_int_row a) = refl
  filled-truth (lookup_row A i) = refl
  filled-truth (sum_row s a) = refl

  -- A node's tree is its row, filled.
  node-filled : (n : ℕ) → Laid bs places → n < places.node_count → tree_at (trees_of bs places) n ≡ fill (trees_of bs places) (row_at bs places n)
  unfolding trees_of
  node-filled n l h =
      tree-at (listed places.node_count (row_at bs places)) n (truth_row false) (rw length-listed h) (rw at (l.earlier n h))
      ∙ ap (fill (trees (listed places.node_count (row_at bs places)))) at
    where
      at : get_or (listed places.node_count (row_at bs places)) n (truth_row false) ≡ row_at bs places n
      at = get_d_listed places.node_count (row_at bs places) (truth_row false) n h

  pub integer-node : (n : ℕ) → Laid bs places → n < places.node_count → integer_at ρ bs places α values n ≡ integer_of_case (integer_case (row_at bs places n))
  unfolding integer_at tree_i
  integer-node n l h =
      ap (λ t. integer_walked ρ (declared bs places) α (as_i t) (setting_of values)) (node-filled n l h) ∙ filled-integer (row_at bs places n)

  pub truth-node : (n : ℕ) → Laid bs places → n < places.node_count → truth_at ρ bs places α values n ≡ truth_of_case (truth_case (row_at bs places n))
  unfolding truth_at tree_b
  truth-node n l h = ap (λ t. truth_walked ρ (declared bs places) α (as_b t) (setting_of values)) (node-filled n l h) ∙ filled-truth (row_at bs places n)

-- The operands of a node's case have smaller numbers.
module _ (bs : List ℕ) (places : TablePlaces) (n : ℕ) (l : Laid bs places) (h : n < places.node_count) where
  pub integer-operands : IntegerBelow n (integer_case (row_at bs places n))
  integer-operands = integer-below n (row_at bs places n) (l.earlier n h)

  pub truth-operands : TruthBelow n (truth_case (row_at bs places n))
  truth-operands = truth-below n (row_at bs places n) (l.earlier n h)
