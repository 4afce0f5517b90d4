-- `nodes::enter_arrays` meets its contract: the facts of the arrays passed stand at their places.
use mathlib.Core.Path.{◌≡◌}
use Prim.Native.Nat.{ℕ, ◌≤◌}
use lib.ListN.{get_or}
use Rattle.table.specs.Records.{kind_at}
use Rattle.answers.specs.Sections.{array_records}
use Rattle.nodes.specs.Known.{entered, declared_fact}
use Rattle.nodes.proofs.Turns.{ArrayAt}
use Rattle.nodes.proofs.enter_arrays.Given as goal

abbrev pub invariant-loop-a : goal.invariant-loop-a
invariant-loop-a l =
    (l.a ≤ l.count) × (l.facts ≡ entered 19 (λ (k : ℕ). declared_fact (kind_at l.table (get_or (array_records l.table) k 0))) l.a l.initial.facts) × ArrayAt l.table l.a l.p
