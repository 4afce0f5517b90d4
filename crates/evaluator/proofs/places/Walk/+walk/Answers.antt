-- The cycle of the walk meets its contracts: a node's number or truth value, an operand's, and those over a slot's values.
use borrow.Author.Rules.{rules, sfits_of}
use mathlib.Core.Path.{◌≡◌, refl, sym, ap, subst, ◌∙◌}
use Prim.Native.Nat.{ℕ, ◌*◌, ◌^◌, ◌≤◌, ◌<◌}
use native.Mathlib.Omega.{arith}
use Rattle.operations.specs.Sums.{total_of, magnitude}
use mathlib.Core.Bool.{true}
use mathlib.Core.Option.{some}
use lib.IntN.{pos}
use Rattle.language.specs.Readings as readings
use Rattle.language.specs.Readings.{arithmetic, division}
use Rattle.operations.specs.declared.sums.Total.{Total}
use Rattle.operations.specs.declared.values.Value.TheVariants.{Truth}
use Rattle.operations.specs.Values.{of_walk}
use Rattle.operations.specs.Integers.{arithmetic_of, division_of, integers, negated, numbered}
use Rattle.operations.specs.Truths.{comparison_of, connective_of, compared, connected, opposed}
use Rattle.evaluator.specs.Walks.{looked_up, looked_up_truth}
use Rattle.evaluator.specs.OfWalk.{reads, declares, integer_at, truth_at}
use Rattle.evaluator.proofs.Decoding.{eqb-is_one}
use Rattle.evaluator.proofs.Binding.{total-none, joint_none}
use Rattle.evaluator.proofs.Turning.{slot-in, few-turns, value-fits, value-is, restored, sum-turn, sum_done, joint_turn, joint_done}
use Rattle.evaluator.proofs.Stepping.{to-operand, to-node, integer-smaller, truth-smaller, integer-case, truth-case, leaf-case, of_one, of_two, of_leaf}
use Rattle.evaluator.proofs.places.Walk.+walk.Goals as goal

all-turns : {n k : ℕ} → k ≤ n → n ≤ k → k ≡ n
all-turns p q = omega arith

nothing-small : {t : Total} → t ≡ total_of true (some (pos 0)) → magnitude t ≤ 0 * 2 ^ 31
nothing-small e = rw e (omega arith)

pub integer-operand-x-requires : goal.integer-operand-x-requires
integer-operand-x-requires t c = to-operand c.decreases c.requires (integer-smaller c.args.self.now.laid c.requires c.record_at.ensures c.integer_node.ensures c.in-Calculated.is).0

pub integer-operand-y-requires : goal.integer-operand-y-requires
integer-operand-y-requires t c = to-operand c.decreases c.requires (integer-smaller c.args.self.now.laid c.requires c.record_at.ensures c.integer_node.ensures c.in-Calculated.is).1

pub integer-operand-x-requires-in-Divided : goal.integer-operand-x-requires-in-Divided
integer-operand-x-requires-in-Divided t c = to-operand c.decreases c.requires (integer-smaller c.args.self.now.laid c.requires c.record_at.ensures c.integer_node.ensures c.in-Divided.is).0

pub integer-operand-y-requires-in-Divided : goal.integer-operand-y-requires-in-Divided
integer-operand-y-requires-in-Divided t c = to-operand c.decreases c.requires (integer-smaller c.args.self.now.laid c.requires c.record_at.ensures c.integer_node.ensures c.in-Divided.is).1

pub integer-operand-requires : goal.integer-operand-requires
integer-operand-requires t c = to-operand c.decreases c.requires (integer-smaller c.args.self.now.laid c.requires c.record_at.ensures c.integer_node.ensures c.in-Negate.is)

pub integer-truth-requires : goal.integer-truth-requires
integer-truth-requires t c = to-node c.decreases c.requires (integer-smaller c.args.self.now.laid c.requires c.record_at.ensures c.integer_node.ensures c.in-BoolToInt.is)

pub integer-operand-index-requires : goal.integer-operand-index-requires
integer-operand-index-requires t c = to-operand c.decreases c.requires (integer-smaller c.args.self.now.laid c.requires c.record_at.ensures c.integer_node.ensures c.in-Lookup.is)

pub integer-sum-requires : goal.integer-sum-requires
integer-sum-requires t c = to-operand c.decreases c.requires (integer-smaller c.args.self.now.laid c.requires c.record_at.ensures c.integer_node.ensures c.in-Sum.is)

pub integer-returns-in-Constant : goal.integer-returns-in-Constant
integer-returns-in-Constant t c = record { value = c.limited_value.ensures ∙ integer-case c.args.self.now.laid c.requires c.record_at.ensures _ _ _ c.integer_node.ensures c.in-Constant.is; kept = refl }

pub integer-returns-in-Variable : goal.integer-returns-in-Variable
integer-returns-in-Variable t c = record { value = of_leaf (sfits_of c.variable.type_inv) c.variable.ensures c.limited.ensures (integer-case c.args.self.now.laid c.requires c.record_at.ensures _ _ _ c.integer_node.ensures c.in-Variable.is); kept = refl }

pub integer-returns-in-Slot : goal.integer-returns-in-Slot
integer-returns-in-Slot t c = record { value = of_leaf (sfits_of c.slot.type_inv) c.slot.ensures c.limited-in-Slot.ensures (integer-case c.args.self.now.laid c.requires c.record_at.ensures _ _ _ c.integer_node.ensures c.in-Slot.is); kept = refl }

pub integer-returns-in-Calculated : goal.integer-returns-in-Calculated
integer-returns-in-Calculated t c = record { value = of_two (integers (λ x y. some (arithmetic (arithmetic_of c.in-Calculated.op) x y))) (integer_at c.args.self.now) c.calculate.ensures c.operand-x.ensures.value c.operand-x.ensures.kept c.operand-y.ensures.value (integer-case c.args.self.now.laid c.requires c.record_at.ensures _ _ _ c.integer_node.ensures c.in-Calculated.is); kept = c.operand-y.ensures.kept ∙ c.operand-x.ensures.kept }

pub integer-returns-in-Divided : goal.integer-returns-in-Divided
integer-returns-in-Divided t c = record { value = of_two (integers (division (division_of c.in-Divided.op))) (integer_at c.args.self.now) c.divide.ensures c.operand-x-in-Divided.ensures.value c.operand-x-in-Divided.ensures.kept c.operand-y-in-Divided.ensures.value (integer-case c.args.self.now.laid c.requires c.record_at.ensures _ _ _ c.integer_node.ensures c.in-Divided.is); kept = c.operand-y-in-Divided.ensures.kept ∙ c.operand-x-in-Divided.ensures.kept }

pub integer-returns-in-Negate : goal.integer-returns-in-Negate
integer-returns-in-Negate t c = record { value = of_one negated c.negate.ensures c.operand.ensures.value (integer-case c.args.self.now.laid c.requires c.record_at.ensures _ _ _ c.integer_node.ensures c.in-Negate.is); kept = c.operand.ensures.kept }

pub integer-returns-in-BoolToInt : goal.integer-returns-in-BoolToInt
integer-returns-in-BoolToInt t c = record { value = of_one numbered c.number.ensures c.truth.ensures.value (integer-case c.args.self.now.laid c.requires c.record_at.ensures _ _ _ c.integer_node.ensures c.in-BoolToInt.is); kept = c.truth.ensures.kept }

pub integer-returns-in-Lookup : goal.integer-returns-in-Lookup
integer-returns-in-Lookup t c = record { value = of_one (looked_up readings.strict (declares c.args.self.now) c.args.self.now.assignment.now c.in-Lookup.array.0) c.looked_up.ensures c.operand-index.ensures.value (integer-case c.args.self.now.laid c.requires c.record_at.ensures _ _ _ c.integer_node.ensures c.in-Lookup.is); kept = c.operand-index.ensures.kept }

pub integer-returns-in-Sum : goal.integer-returns-in-Sum
integer-returns-in-Sum t c = record { value = c.sum.ensures.value ∙ integer-case c.args.self.now.laid c.requires c.record_at.ensures _ _ _ c.integer_node.ensures c.in-Sum.is; kept = c.sum.ensures.kept }

pub operand-returns-in-Some : goal.operand-returns-in-Some
operand-returns-in-Some t c = record { value = leaf-case c.args.self.now.laid c.requires _ _ _ c.leaf_at.ensures c.in-Some.is; kept = refl }

pub truth-operand-index-requires : goal.truth-operand-index-requires
truth-operand-index-requires t c = to-operand c.decreases c.requires (truth-smaller c.args.self.now.laid c.requires c.record_at.ensures c.truth_node.ensures c.in-Lookup.is)

pub truth-truth-x-requires : goal.truth-truth-x-requires
truth-truth-x-requires t c = to-node c.decreases c.requires (truth-smaller c.args.self.now.laid c.requires c.record_at.ensures c.truth_node.ensures c.in-Connected.is).0

pub truth-truth-y-requires : goal.truth-truth-y-requires
truth-truth-y-requires t c = to-node c.decreases c.requires (truth-smaller c.args.self.now.laid c.requires c.record_at.ensures c.truth_node.ensures c.in-Connected.is).1

pub truth-truth-requires : goal.truth-truth-requires
truth-truth-requires t c = to-node c.decreases c.requires (truth-smaller c.args.self.now.laid c.requires c.record_at.ensures c.truth_node.ensures c.in-Not.is)

pub truth-operand-x-requires : goal.truth-operand-x-requires
truth-operand-x-requires t c = to-operand c.decreases c.requires (truth-smaller c.args.self.now.laid c.requires c.record_at.ensures c.truth_node.ensures c.in-Compared.is).0

pub truth-operand-y-requires : goal.truth-operand-y-requires
truth-operand-y-requires t c = to-operand c.decreases c.requires (truth-smaller c.args.self.now.laid c.requires c.record_at.ensures c.truth_node.ensures c.in-Compared.is).1

pub truth-quantified-requires : goal.truth-quantified-requires
truth-quantified-requires t c = to-operand c.decreases c.requires (truth-smaller c.args.self.now.laid c.requires c.record_at.ensures c.truth_node.ensures c.in-Quantified.is)

pub truth-returns-in-Constant : goal.truth-returns-in-Constant
truth-returns-in-Constant t c = record { value = c.of_walk.ensures ∙ truth-case c.args.self.now.laid c.requires c.record_at.ensures _ _ _ c.truth_node.ensures c.in-Constant.is; kept = refl }

pub truth-returns-in-Variable : goal.truth-returns-in-Variable
truth-returns-in-Variable t c = record { value = c.truth_of.ensures ∙ ap (λ b. of_walk true (Truth b)) (eqb-is_one (sfits_of c.variable.type_inv) c.variable.ensures) ∙ truth-case c.args.self.now.laid c.requires c.record_at.ensures _ _ _ c.truth_node.ensures c.in-Variable.is; kept = refl }

pub truth-returns-in-Lookup : goal.truth-returns-in-Lookup
truth-returns-in-Lookup t c = record { value = of_one (looked_up_truth (reads c.args.self.now) (declares c.args.self.now) c.args.self.now.assignment.now c.in-Lookup.array.0) c.looked_up_truth.ensures c.operand-index.ensures.value (truth-case c.args.self.now.laid c.requires c.record_at.ensures _ _ _ c.truth_node.ensures c.in-Lookup.is); kept = c.operand-index.ensures.kept }

pub truth-returns-in-Connected : goal.truth-returns-in-Connected
truth-returns-in-Connected t c = record { value = of_two (connected (reads c.args.self.now) (connective_of c.in-Connected.op)) (truth_at c.args.self.now) c.connect.ensures c.truth-x.ensures.value c.truth-x.ensures.kept c.truth-y.ensures.value (truth-case c.args.self.now.laid c.requires c.record_at.ensures _ _ _ c.truth_node.ensures c.in-Connected.is); kept = c.truth-y.ensures.kept ∙ c.truth-x.ensures.kept }

pub truth-returns-in-Not : goal.truth-returns-in-Not
truth-returns-in-Not t c = record { value = of_one opposed c.negation.ensures c.truth.ensures.value (truth-case c.args.self.now.laid c.requires c.record_at.ensures _ _ _ c.truth_node.ensures c.in-Not.is); kept = c.truth.ensures.kept }

pub truth-returns-in-Compared : goal.truth-returns-in-Compared
truth-returns-in-Compared t c = record { value = of_two (compared (reads c.args.self.now) (comparison_of c.in-Compared.op)) (integer_at c.args.self.now) c.compare.ensures c.operand-x.ensures.value c.operand-x.ensures.kept c.operand-y.ensures.value (truth-case c.args.self.now.laid c.requires c.record_at.ensures _ _ _ c.truth_node.ensures c.in-Compared.is); kept = c.operand-y.ensures.kept ∙ c.operand-x.ensures.kept }

pub truth-returns-in-Quantified : goal.truth-returns-in-Quantified
truth-returns-in-Quantified t c = record { value = c.quantified.ensures.value ∙ truth-case c.args.self.now.laid c.requires c.record_at.ensures _ _ _ c.truth_node.ensures c.in-Quantified.is; kept = c.quantified.ensures.kept }

pub sum-loop-k-init : goal.sum-loop-k-init
sum-loop-k-init t c = record { kept = refl; is = c.nothing-total.ensures ∙ total-none _ _ _ _ _ _ _; small = nothing-small c.nothing-total.ensures }

pub sum-bounds-setting-i : goal.sum-bounds-setting-i
sum-bounds-setting-i t c = slot-in c.args.self.now.laid c.args.s.0 c.range_of-range.ensures c.loop-k-test.true

pub sum-value-requires : goal.sum-value-requires
sum-value-requires t c = value-fits c.args.self.now.laid c.args.s.0 c.range_of-range.ensures c.loop-k-test.true

pub sum-bounds-setting-i-in-loop-k : goal.sum-bounds-setting-i-in-loop-k
sum-bounds-setting-i-in-loop-k t c = slot-in c.args.self.now.laid c.args.s.0 c.range_of-range.ensures c.loop-k-test.true

pub sum-bounds-setting-i-in-loop-k-2 : goal.sum-bounds-setting-i-in-loop-k-2
sum-bounds-setting-i-in-loop-k-2 t c = slot-in c.args.self.now.laid c.args.s.0 c.range_of-range.ensures c.loop-k-test.true

pub sum-added-total-requires : goal.sum-added-total-requires
sum-added-total-requires t c = omega (arith, c.loop-k.invariant.small, c.loop-k-test.true, few-turns c.args.self.now.laid c.args.s.0 c.range_of-range.ensures c.loop-k-test.true)

pub sum-loop-k-preserved : goal.sum-loop-k-preserved
sum-loop-k-preserved t c =
    record {
      kept = restored c.loop-k.setting c.args.s.0 _ (search rules) c.loop-k.invariant.kept c.integer-m.ensures.kept;
      is = sum-turn _ _ _ _ _ _ _ c.loop-k.k (subst (λ n. c.args.s.0 < n) (sym c.told-setting) (slot-in c.args.self.now.laid c.args.s.0 c.range_of-range.ensures c.loop-k-test.true)) c.loop-k.invariant.is c.loop-k.invariant.kept (value-is c.args.self.now.laid c.args.s.0 c.range_of-range.ensures c.loop-k-test.true (sfits_of c.value.type_inv) c.value.ensures) c.integer-m.ensures.value c.added-total.ensures.0;
      small = omega (arith, c.loop-k.invariant.small, c.added-total.ensures.1);
    }

pub sum-returns : goal.sum-returns
sum-returns t c = record { value = sum_done _ _ _ _ _ _ _ c.loop-k.k c.loop-k.invariant.is c.range_of-range.ensures (all-turns c.loop-k.auto.k-end c.loop-k-test.false) c.summed.ensures; kept = c.loop-k.invariant.kept }

pub quantified-loop-k-init : goal.quantified-loop-k-init
quantified-loop-k-init t c = record { kept = refl; is = c.empty-joint.ensures ∙ joint_none _ _ _ _ _ _ _ _ }

pub quantified-bounds-setting-i : goal.quantified-bounds-setting-i
quantified-bounds-setting-i t c = slot-in c.args.self.now.laid c.args.s.0 c.range_of-range.ensures c.loop-k-test.true

pub quantified-value-requires : goal.quantified-value-requires
quantified-value-requires t c = value-fits c.args.self.now.laid c.args.s.0 c.range_of-range.ensures c.loop-k-test.true

pub quantified-bounds-setting-i-in-loop-k : goal.quantified-bounds-setting-i-in-loop-k
quantified-bounds-setting-i-in-loop-k t c = slot-in c.args.self.now.laid c.args.s.0 c.range_of-range.ensures c.loop-k-test.true

pub quantified-bounds-setting-i-in-loop-k-2 : goal.quantified-bounds-setting-i-in-loop-k-2
quantified-bounds-setting-i-in-loop-k-2 t c = slot-in c.args.self.now.laid c.args.s.0 c.range_of-range.ensures c.loop-k-test.true

pub quantified-loop-k-preserved : goal.quantified-loop-k-preserved
quantified-loop-k-preserved t c =
    record {
      kept = restored c.loop-k.setting c.args.s.0 _ (search rules) c.loop-k.invariant.kept c.truth-m.ensures.kept;
      is = joint_turn _ _ _ _ _ _ _ _ c.loop-k.k (subst (λ n. c.args.s.0 < n) (sym c.told-setting) (slot-in c.args.self.now.laid c.args.s.0 c.range_of-range.ensures c.loop-k-test.true)) c.loop-k.invariant.is c.loop-k.invariant.kept (value-is c.args.self.now.laid c.args.s.0 c.range_of-range.ensures c.loop-k-test.true (sfits_of c.value.type_inv) c.value.ensures) c.truth-m.ensures.value c.joins.ensures c.connect-joint.ensures;
    }

pub quantified-returns : goal.quantified-returns
quantified-returns t c = record { value = joint_done _ _ _ _ _ _ _ _ c.loop-k.k c.loop-k.invariant.is c.range_of-range.ensures (all-turns c.loop-k.auto.k-end c.loop-k-test.false); kept = c.loop-k.invariant.kept }
