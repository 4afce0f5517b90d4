-- Node records decoded: the case of each row. A node of the other type reads as 0, or as false.
-- Internal: a contract behind the public ones; no public promise cites it.
use Rattle.std.specs.Prelude.{ℕ, false, pos}
use Rattle.language.specs.Syntax as syntax
use Rattle.language.specs.Tables.{Row, constant_row, variable_row, slot_row, arith_row, divide_row, negate_row, bool_to_int_row, lookup_row, sum_row, truth_row, variable_b_row, lookup_b_row, connect_row, negation_row, compare_row, quantify_row}
use Rattle.table.specs.declared.VariableNumber.{VariableNumber}
use Rattle.table.specs.declared.SlotNumber.{SlotNumber}
use Rattle.table.specs.declared.ArrayNumber.{ArrayNumber}
use Rattle.table.specs.declared.NodeNumber.{NodeNumber}
use Rattle.operations.specs.declared.integers.Arithmetic.TheVariants as arithmetic
use Rattle.operations.specs.declared.integers.Division.TheVariants as division
use Rattle.operations.specs.declared.truths.Comparison.TheVariants as comparison
use Rattle.operations.specs.declared.truths.Connective.TheVariants as connective
use Rattle.operations.specs.declared.values.Quantifier.TheVariants as quantifier
use Rattle.operations.specs.declared.values.Value.TheVariants.{Integer, Truth}
use Rattle.evaluator.specs.declared.decoded.IntegerNode.{IntegerNode}
use Rattle.evaluator.specs.declared.decoded.IntegerNode.TheVariants as integer
use Rattle.evaluator.specs.declared.decoded.TruthNode.{TruthNode}
use Rattle.evaluator.specs.declared.decoded.TruthNode.TheVariants as truth

-- numbers as the code has them
abbrev pub node : ℕ → NodeNumber
node n = record { 0 = n }

abbrev pub variable : ℕ → VariableNumber
variable n = record { 0 = n }

abbrev pub slot : ℕ → SlotNumber
slot n = record { 0 = n }

abbrev pub array : ℕ → ArrayNumber
array n = record { 0 = n }

-- a row as an integer node
unfoldable pub integer_case : Row → IntegerNode
integer_case (constant_row z) = integer.Constant (Integer z)
integer_case (variable_row v) = integer.Variable (variable v)
integer_case (slot_row s) = integer.Slot (slot s)
integer_case (arith_row syntax.plus a b) = integer.Calculated arithmetic.Plus (node a) (node b)
integer_case (arith_row syntax.minus a b) = integer.Calculated arithmetic.Minus (node a) (node b)
integer_case (arith_row syntax.times a b) = integer.Calculated arithmetic.Times (node a) (node b)
integer_case (divide_row syntax.quot a b) = integer.Divided division.Quotient (node a) (node b)
integer_case (divide_row syntax.rem a b) = integer.Divided division.Remainder (node a) (node b)
integer_case (arith_row syntax.minimum a b) = integer.Calculated arithmetic.Minimum (node a) (node b)
integer_case (arith_row syntax.maximum a b) = integer.Calculated arithmetic.Maximum (node a) (node b)
integer_case (negate_row a) = integer.Negate (node a)
integer_case (bool_to_int_row a) = integer.BoolToInt (node a)
integer_case (lookup_row A i) = integer.Lookup (array A) (node i)
integer_case (sum_row s a) = integer.Sum (slot s) (node a)
integer_case (truth_row b) = integer.Constant (Integer (pos 0))
integer_case (variable_b_row v) = integer.Constant (Integer (pos 0))
integer_case (lookup_b_row A i) = integer.Constant (Integer (pos 0))
integer_case (connect_row c a b) = integer.Constant (Integer (pos 0))
integer_case (negation_row a) = integer.Constant (Integer (pos 0))
integer_case (compare_row c a b) = integer.Constant (Integer (pos 0))
integer_case (quantify_row q s a) = integer.Constant (Integer (pos 0))

-- a row as a Boolean node
unfoldable pub truth_case : Row → TruthNode
truth_case (truth_row b) = truth.Constant (Truth b)
truth_case (variable_b_row v) = truth.Variable (variable v)
truth_case (lookup_b_row A i) = truth.Lookup (array A) (node i)
truth_case (connect_row syntax.conj a b) = truth.Connected connective.And (node a) (node b)
truth_case (connect_row syntax.disj a b) = truth.Connected connective.Or (node a) (node b)
truth_case (connect_row syntax.implies a b) = truth.Connected connective.Implies (node a) (node b)
truth_case (connect_row syntax.iff a b) = truth.Connected connective.Iff (node a) (node b)
truth_case (compare_row syntax.equal a b) = truth.Compared comparison.Equal (node a) (node b)
truth_case (compare_row syntax.unequal a b) = truth.Compared comparison.Unequal (node a) (node b)
truth_case (compare_row syntax.at_most a b) = truth.Compared comparison.AtMost (node a) (node b)
truth_case (compare_row syntax.below a b) = truth.Compared comparison.Below (node a) (node b)
truth_case (negation_row a) = truth.Not (node a)
truth_case (quantify_row syntax.exists s a) = truth.Quantified quantifier.Exists (slot s) (node a)
truth_case (quantify_row syntax.forall s a) = truth.Quantified quantifier.Forall (slot s) (node a)
truth_case (constant_row z) = truth.Constant (Truth false)
truth_case (variable_row v) = truth.Constant (Truth false)
truth_case (slot_row s) = truth.Constant (Truth false)
truth_case (arith_row op a b) = truth.Constant (Truth false)
truth_case (divide_row op a b) = truth.Constant (Truth false)
truth_case (negate_row a) = truth.Constant (Truth false)
truth_case (bool_to_int_row a) = truth.Constant (Truth false)
truth_case (lookup_row A i) = truth.Constant (Truth false)
truth_case (sum_row s a) = truth.Constant (Truth false)
