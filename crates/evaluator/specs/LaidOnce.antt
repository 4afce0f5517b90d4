-- There is one proof at most that a table is laid out as the walk relies on.
-- Internal: a contract behind the public ones; no public promise cites it.
use Rattle.std.specs.Prelude.{ℕ, List}
use Rattle.std.specs.Coded.{×_prop, Unit-prop, le_prop}
use Rattle.language.specs.Tables.{Row, constant_row, variable_row, slot_row, arith_row, divide_row, negate_row, bool_to_int_row, lookup_row, sum_row, truth_row, variable_b_row, lookup_b_row, connect_row, negation_row, compare_row, quantify_row}
use Rattle.language.proofs.Trees.{NamesBelow}
use Rattle.std.proofs.Props.{props}
use Rattle.evaluator.specs.declared.places.TablePlaces.{TablePlaces}
use Rattle.evaluator.specs.Walks.{Laid}

NamesBelow-prop : (n : ℕ) (r : Row) → IsProp (NamesBelow n r)
NamesBelow-prop n (constant_row z) = Unit-prop
NamesBelow-prop n (variable_row v) = Unit-prop
NamesBelow-prop n (slot_row s) = Unit-prop
NamesBelow-prop n (arith_row op a b) = ×_prop le_prop le_prop
NamesBelow-prop n (divide_row op a b) = ×_prop le_prop le_prop
NamesBelow-prop n (negate_row a) = le_prop
NamesBelow-prop n (bool_to_int_row a) = le_prop
NamesBelow-prop n (lookup_row A i) = le_prop
NamesBelow-prop n (sum_row s a) = le_prop
NamesBelow-prop n (truth_row b) = Unit-prop
NamesBelow-prop n (variable_b_row v) = Unit-prop
NamesBelow-prop n (lookup_b_row A i) = le_prop
NamesBelow-prop n (connect_row c a b) = ×_prop le_prop le_prop
NamesBelow-prop n (negation_row a) = le_prop
NamesBelow-prop n (compare_row c a b) = ×_prop le_prop le_prop
NamesBelow-prop n (quantify_row q s a) = le_prop

pub Laid-prop : (bs : List ℕ) (places : TablePlaces) → IsProp (Laid bs places)
Laid-prop bs places = Prim.hlevel (props, NamesBelow-prop)
