-- `nodes::enter_variables` meets its contract: the facts of the variables passed stand at their places.
use mathlib.Core.Path.{◌≡◌}
use Prim.Native.Nat.{ℕ, ◌+◌, ◌≤◌}
use Rattle.table.specs.Records.{kind_at}
use Rattle.nodes.specs.Known.{entered, declared_fact}
use Rattle.nodes.proofs.enter_variables.Given as goal

abbrev pub invariant-loop-v : goal.invariant-loop-v
invariant-loop-v l = (l.v ≤ l.count) × (l.facts ≡ entered 83 (λ (k : ℕ). declared_fact (kind_at l.table (1 + k))) l.v l.initial.facts)
