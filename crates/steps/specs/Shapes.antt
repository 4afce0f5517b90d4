-- Whose steps a node takes over, by the fields of its kind.
-- Internal: a contract behind the public ones; no public promise cites it.
use Rattle.std.specs.Prelude.{Bool, true, false, cond, ◌&&◌}
use Rattle.std.proofs.Math.Option.{Option, none, some}
use Rattle.table.specs.Kinds.{Field, unused, any_number, truth_value, variable_number, slot_number, array_number, node_number, Kind}
use Rattle.steps.specs.declared.Shape.{Shape}
use Rattle.steps.specs.declared.Shape.TheVariants.{Leaf, OfX, OfY, OfBoth, OfRange}

-- a field that names a node
unfoldable pub names_node : Field → Bool
names_node unused = false
names_node any_number = false
names_node truth_value = false
names_node (variable_number t) = false
names_node slot_number = false
names_node (array_number t) = false
names_node (node_number t) = true

-- a field that names a slot
unfoldable pub names_slot : Field → Bool
names_slot unused = false
names_slot any_number = false
names_slot truth_value = false
names_slot (variable_number t) = false
names_slot slot_number = true
names_slot (array_number t) = false
names_slot (node_number t) = false

-- whose steps a node of a kind takes over
unfoldable pub shape_of : Option Kind → Shape
shape_of none = Leaf
shape_of (some k) =
    cond (names_slot k.field_x && names_node k.field_y) OfRange
    (cond (names_node k.field_x) (cond (names_node k.field_y) OfBoth OfX) (cond (names_node k.field_y) OfY Leaf))
