-- "An operand node has a smaller number than its user."
use mathlib.Core.Path.{◌≡◌}
use Prim.Native.Nat.{ℕ}
use mathlib.Core.List.{List}
use mathlib.Core.Option.{none}
use Rattle.language.proofs.Trees.{NamesBelow}
use Rattle.rules.proofs.Nodes.{RowFits→NamesBelow}
use Rattle.answers.specs.Sections.{declarations, row_of}
use Rattle.answers.specs.Check.{node_fault}
use Rattle.answers.proofs.Fields.{rows_below}
use Rattle.answers.proofs.Listed.{length-listed}
use Rattle.answers.proofs.NodesFit.{none→NodePassed, NodePassed→RowFits}

-- The row of node n of a table that has passed names nodes below n.
pub passed-below : (bs : List ℕ) (n p : ℕ) → node_fault bs n p ≡ none → NamesBelow n (row_of bs p)
passed-below bs n p h =
    rw length-listed at (RowFits→NamesBelow (declarations bs) (rows_below bs n) (row_of bs p) (NodePassed→RowFits bs n p (none→NodePassed bs n p h)))
