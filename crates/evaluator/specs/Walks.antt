-- What a walk over a node of a table gives: the language's value and whether it stays within the limit, over what the table declares. The
-- table stands, padded with 0, in a fixed array of bytes, and beside it where its sections lie.
-- Internal: a contract behind the public ones; no public promise cites it.
use Rattle.std.specs.Prelude.{ℕ, ◌+◌, ◌-◌, ◌≤◌, ◌<◌, true, ◌≡◌, List, map, ℤ, pos, nat_abs, length, get_or, take, Option, Some, None}
use Rattle.std.proofs.Math.Option as option
use Rattle.std.proofs.Math.Option.{some, bind}
use Rattle.numbers.specs.Limits.{most_bytes, most_slots, most_slot_values, most_arrays, reach}
use Rattle.language.specs.Syntax as syntax
use Rattle.language.specs.Syntax.{IExp, BExp, Slot, Declarations}
use Rattle.language.specs.Tables.{Row, constant_row, variable_row, slot_row, arith_row, divide_row, negate_row, bool_to_int_row, lookup_row, sum_row, truth_row, variable_b_row, lookup_b_row, connect_row, negation_row, compare_row, quantify_row, Tree, trees, tree_i, tree_b}
use Rattle.language.specs.Readings as readings
use Rattle.language.specs.Readings.{atomic}
use Rattle.language.specs.Meaning.{Assignment, Setting, array_at, count, is_one, value_of, element_at, value_i, value_b, met_within_i, met_within_b}
use Rattle.language.proofs.Trees.{NamesBelow}
use Rattle.answers.specs.Sections.{listed, variable_of, slot_of, array_of, behind_array, row_of}
use Rattle.operations.specs.declared.values.Walked.{Walked}
use Rattle.operations.specs.declared.values.Quantifier.{Quantifier}
use Rattle.operations.specs.declared.values.Quantifier.TheVariants.{Exists, Forall}
use Rattle.evaluator.specs.declared.places.TablePlaces.{TablePlaces}
use Rattle.evaluator.specs.declared.ranges.Range.{Range}
use Rattle.operations.specs.Values.{of_integer, of_truth, integer_of, of_walk, limited_to, truth_to}

module _ (bs : List ℕ) (places : TablePlaces) where
  -- what the table declares
  unfoldable pub declared : Declarations
  declared =
      record {
        variables = listed (places.slots_from - 1) (λ i. variable_of bs (1 + i));
        slots = listed places.slot_count (λ i. slot_of bs (places.slots_from + i));
        arrays = map (array_of bs) (take places.array_count places.arrays);
      }

  unfoldable pub row_at : ℕ → Row
  row_at n = row_of bs (places.nodes_from + n)

  unfoldable pub trees_of : List Tree
  trees_of = trees (listed places.node_count row_at)

  -- What the walk may take for granted of a table: its sections lie within the array, its numbers are within document 01's limits, and
  -- "an operand node has a smaller number than its user".
  pub record Laid : Type 0 where
    pub sized : length bs ≡ most_bytes
    pub wide : length places.arrays ≡ most_arrays
    pub nodes_in : places.nodes_from + places.node_count ≤ 5000
    pub earlier : (n : ℕ) → n < places.node_count → NamesBelow n (row_at n)
    pub few_slots : places.slot_count ≤ most_slots
    pub slots_in : places.slots_from + places.slot_count ≤ 5000
    pub few_values : (s : ℕ) → s < places.slot_count → count (slot_of bs (places.slots_from + s)) ≤ most_slot_values
    pub near_slots : (s : ℕ) → s < places.slot_count → nat_abs (slot_of bs (places.slots_from + s)).low ≤ reach
    pub few_arrays : places.array_count ≤ most_arrays
    pub arrays_in : (A : ℕ) → A < places.array_count → behind_array bs (get_or places.arrays A 0) ≤ 5000

-- the slots' values as the code has them
unfoldable pub setting_of : List ℤ → Setting
setting_of values s = get_or values s (pos 0)

-- a slot's range as the code has it
abbrev pub range_of : Slot → Range
range_of s = record { low = s.low; count = count s }

module _ (ρ : readings.Reading) (Γ : Declarations) (α : Assignment) where
  unfoldable pub integer_walked : IExp ⊥ → Setting → Walked
  integer_walked e σ = of_walk (met_within_i ρ Γ α e σ) (of_integer (value_i ρ Γ α e σ))

  unfoldable pub truth_walked : BExp ⊥ → Setting → Walked
  truth_walked e σ = of_walk (met_within_b ρ Γ α e σ) (of_truth (value_b ρ Γ α e σ))

  -- an array at an index that was walked
  unfoldable pub looked_up : ℕ → Walked → Walked
  looked_up A i = limited_to i.within (bind (integer_of i.value) (element_at α (array_at Γ A)))

  unfoldable pub looked_up_truth : ℕ → Walked → Walked
  looked_up_truth A i = truth_to i.within (atomic ρ (option.map is_one (bind (integer_of i.value) (element_at α (array_at Γ A)))))

-- an integer leaf's value; any other row is none
unfoldable pub leaf_of : Assignment → Setting → Row → Option Walked
leaf_of α σ (constant_row z) = Some (limited_to true (some z))
leaf_of α σ (variable_row v) = Some (limited_to true (some (value_of α v)))
leaf_of α σ (slot_row s) = Some (limited_to true (some (σ s)))
leaf_of α σ (arith_row op a b) = None
leaf_of α σ (divide_row op a b) = None
leaf_of α σ (negate_row a) = None
leaf_of α σ (bool_to_int_row a) = None
leaf_of α σ (lookup_row A i) = None
leaf_of α σ (sum_row s a) = None
leaf_of α σ (truth_row b) = None
leaf_of α σ (variable_b_row v) = None
leaf_of α σ (lookup_b_row A i) = None
leaf_of α σ (connect_row c a b) = None
leaf_of α σ (negation_row a) = None
leaf_of α σ (compare_row c a b) = None
leaf_of α σ (quantify_row q s a) = None

module _ (ρ : readings.Reading) (bs : List ℕ) (places : TablePlaces) (α : Assignment) (values : List ℤ) where
  -- what the walk over node n gives, as an integer node and as a Boolean one
  unfoldable pub integer_at : ℕ → Walked
  integer_at n = integer_walked ρ (declared bs places) α (tree_i (trees_of bs places) n) (setting_of values)

  unfoldable pub truth_at : ℕ → Walked
  truth_at n = truth_walked ρ (declared bs places) α (tree_b (trees_of bs places) n) (setting_of values)

  -- a sum, and a quantifier, over a slot and a body's node
  unfoldable pub sum_at : ℕ → ℕ → Walked
  sum_at s a = integer_walked ρ (declared bs places) α (syntax.sum s (tree_i (trees_of bs places) a)) (setting_of values)

  unfoldable pub quantified_at : syntax.Quantifier → ℕ → ℕ → Walked
  quantified_at q s a = truth_walked ρ (declared bs places) α (syntax.quantify q s (tree_b (trees_of bs places) a)) (setting_of values)

abbrev pub quantifier_of : Quantifier → syntax.Quantifier
quantifier_of Exists = syntax.exists
quantifier_of Forall = syntax.forall
