-- `nodes::enter_slots` meets its contract: the facts of the slots passed stand at their places.
use mathlib.Core.Path.{◌≡◌}
use Prim.Native.Nat.{◌≤◌}
use Rattle.nodes.specs.Known.{entered, slot_fact}
use Rattle.nodes.proofs.enter_slots.Given as goal

abbrev pub invariant-loop-s : goal.invariant-loop-s
invariant-loop-s l = (l.s ≤ l.count) × (l.facts ≡ entered 3 slot_fact l.s l.initial.facts)
