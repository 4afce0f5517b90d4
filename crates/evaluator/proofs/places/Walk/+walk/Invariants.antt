-- The invariants of the walks over a slot's values, and the measures of the walk: 3n + 1 for a node, 3n + 2 for an operand or a walk over a slot's values.
use mathlib.Core.Path.{◌≡◌}
use Prim.Native.Nat.{ℕ, ◌+◌, ◌*◌, ◌^◌, ◌≤◌}
use mathlib.Core.List.{List}
use lib.IntN.{ℤ}
use Rattle.language.specs.Syntax as syntax
use Rattle.operations.specs.declared.values.Walked.{Walked}
use Rattle.operations.specs.declared.sums.Total.{Total}
use Rattle.operations.specs.Sums.{magnitude}
use Rattle.reading.specs.Readings.{meant}
use Rattle.evaluator.specs.declared.places.Walk.{Walk}
use Rattle.evaluator.specs.Walks.{quantifier_of}
use Rattle.evaluator.proofs.Binding.{total_to, joint_to}
use Rattle.evaluator.proofs.places.Walk.+walk.Given as goal

module _ (w : Walk) (values : List ℤ) (s a k : ℕ) (now : List ℤ) where
  -- a sum over the first k values of a slot, and the slots' values as they were
  pub record Summed (total : Total) : Type 0 where
    pub kept : now ≡ values
    pub is : total ≡ total_to (meant w.reading) w.table.now w.places.now w.assignment.now values s a k
    pub small : magnitude total ≤ k * 2 ^ 31

  -- a quantifier over the first k values of a slot, and the slots' values as they were
  pub record Joined (q : syntax.Quantifier) (joint : Walked) : Type 0 where
    pub kept : now ≡ values
    pub is : joint ≡ joint_to (meant w.reading) w.table.now w.places.now w.assignment.now values q s a k

abbrev pub decreases-integer : goal.decreases-integer
decreases-integer l = 3 * l.n.0 + 1

abbrev pub decreases-truth : goal.decreases-truth
decreases-truth l = 3 * l.n.0 + 1

abbrev pub decreases-operand : goal.decreases-operand
decreases-operand l = 3 * l.n.0 + 2

abbrev pub decreases-sum : goal.decreases-sum
decreases-sum l = 3 * l.body.0 + 2

abbrev pub decreases-quantified : goal.decreases-quantified
decreases-quantified l = 3 * l.body.0 + 2

abbrev pub invariant-sum-loop-k : goal.invariant-sum-loop-k
invariant-sum-loop-k l = Summed l.self l.initial.setting l.i l.body.0 l.k l.setting l.total

abbrev pub invariant-quantified-loop-k : goal.invariant-quantified-loop-k
invariant-quantified-loop-k l = Joined l.self l.initial.setting l.i l.body.0 l.k l.setting (quantifier_of l.q) l.joint
