-- `nodes::nodes` meets its contract: no fault among the nodes passed, and their facts are known.
use mathlib.Core.Path.{◌≡◌}
use mathlib.Core.Option.{none}
use Prim.Native.Nat.{ℕ, ◌+◌, ◌≤◌}
use Rattle.answers.specs.Sections.{nodes_at}
use Rattle.answers.specs.Check.{first_fault, node_fault}
use Rattle.nodes.specs.Known.{IsKnown}
use Rattle.nodes.proofs.nodes.Given as goal

abbrev pub invariant-loop-n : goal.invariant-loop-n
invariant-loop-n l = (l.n ≤ l.count) × IsKnown l.table l.n l.known × (first_fault (λ (m : ℕ). node_fault l.table m (nodes_at l.table + m)) (nodes_at l.table) l.n ≡ none)
