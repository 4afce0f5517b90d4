-- `writing::nodes::Nodes::indexes` meets its contract.
use mathlib.Core.Path.{sym, ◌∙◌}
use Prim.Native.Nat.{◌<◌}
use native.Mathlib.Omega.{arith}
use lib.ListN.{length}
use Rattle.answers.specs.Sections.{array_records}
use Rattle.writing.proofs.Known.{KnownArrays, known-arrays}
use Rattle.writing.proofs.NodeWords.{looked-up, not-looked-up}
use Rattle.writing.proofs.nodes.Nodes.indexes.Goals.{Then-names_array}
use Rattle.writing.proofs.nodes.Nodes.indexes.Goals as goal

-- array x is declared
declared : (c : Then-names_array) → c.args.x < length (array_records c.args.self.now.table.now.bytes.now)
declared c = c.requires (sym c.names_array.ensures ∙ c.if-names_array.true)

known : (c : Then-names_array) → KnownArrays c.args.self.now.table.now.bytes.now
known c = known-arrays c.args.self.now.table.now.bytes.now c.args.self.now.table.now.sound

pub offset_bounds-self-x : goal.offset_bounds-self-x
offset_bounds-self-x c = omega (arith, declared c, (known c).few)

pub bounds-self-x : goal.bounds-self-x
bounds-self-x c = let d = (goal.at.bounds-self-x c).Then-names_array in omega (arith, declared d, (known d).few)

pub array_indexes-requires : goal.array_indexes-requires
array_indexes-requires c = let d = (goal.at.array_indexes-requires c).Then-names_array in rw (c.args.self.now.arrays_held.held c.args.x) ((known d).inside c.args.x (declared d))

pub returns-then-names_array : goal.returns-then-names_array
returns-then-names_array c = let d = (goal.at.returns-then-names_array c).Then-names_array in c.array_indexes.ensures ∙ looked-up c.args.self.now.table.now.bytes.now (declared d) (c.args.self.now.arrays_held.held c.args.x) (sym c.names_array.ensures ∙ c.if-names_array.true)

pub returns-else-names_array : goal.returns-else-names_array
returns-else-names_array c = not-looked-up _ (sym c.names_array.ensures ∙ c.if-names_array.false)
