-- `steps::Shape::of` meets its contract: the table has the shape of each kind.
use mathlib.Core.Option.{none}
use Rattle.numbers.proofs.Lists.{get_d_map}
use Rattle.table.specs.Kinds.{kinds, kind_of}
use Rattle.steps.specs.Shapes.{names_node, names_slot, shape_of}
use Rattle.steps.proofs.Shape.of.Goals as goal

pub returns : goal.returns
unfolding kinds kind_of shape_of names_node names_slot
returns c = get_d_map shape_of kinds c.args.kind none _ c.requires
