-- The rules of translation, node by node.
use Rattle.std.specs.Prelude.{ℕ, true, ℤ, pos, ◌+ℤ◌, length}
use Rattle.std.proofs.Math.IntN.{pred_ℤ}
use Rattle.language.specs.Syntax.{forall, IExp, constant, variable, slot, arith, negate, bool_to_int, lookup, sum, BExp, truth, variable_b, lookup_b, negation, compare, quantify, Array, Declarations}
use Rattle.language.specs.Readings.{Reading}
use Rattle.language.specs.Tables.{Row, constant_row, variable_row, slot_row, arith_row, divide_row, negate_row, bool_to_int_row, lookup_row, sum_row, truth_row, variable_b_row, lookup_b_row, connect_row, negation_row, compare_row, quantify_row}
use Rattle.language.specs.Meaning.{array_at}
use Rattle.rules.specs.Formulas.{◌and◌, ◌or◌, divide_v, divide_d, inside, clamped, refuted, connect_p, connect_n, quantify_p, quantify_n}

-- "An integer node gets V (number) and D (defined); a Boolean one P (is true) and N (is false)." N is given as a function of P,
-- since some N are ¬P and refer to P's node.
pub data Rule (R : Type 0) : Type 0 where
  numeric : (V' : IExp R) → (D : BExp R) → Rule R
  logical : (P : BExp R) → (N : BExp R → BExp R) → Rule R

-- an array's last index
unfoldable pub last : Array → ℤ
last A = pred_ℤ (A.first +ℤ pos (length A.elements))

-- The rule of a node, over the companions Vₙ, Dₙ, Pₙ, Nₙ of the nodes before it.
module _ {R : Type 0} (ρ : Reading) (Γ : Declarations) (Vₙ : ℕ → IExp R) (Dₙ Pₙ Nₙ : ℕ → BExp R) where
  -- g and the index of h
  unfoldable pub guard : ℕ → ℕ → BExp R
  guard A i = inside (array_at Γ A).first (last (array_at Γ A)) (Dₙ i) (Vₙ i)

  unfoldable pub index : ℕ → ℕ → IExp R
  index A i = clamped (array_at Γ A).first (last (array_at Γ A)) (Vₙ i)

  unfoldable pub rule : Row → Rule R
  -- "Constant, variable, slot: V itself, D true; Boolean: P itself, N ¬P."
  rule (constant_row z) = numeric (constant z) (truth true)
  rule (variable_row v) = numeric (variable v) (truth true)
  rule (slot_row s) = numeric (slot s) (truth true)
  rule (truth_row b) = logical (truth b) (λ P. negation P)
  rule (variable_b_row v) = logical (variable_b v) (λ P. negation P)
  -- "Arithmetic: V = Va op Vb, D = Da ∧ Db. Negate: D = Da."
  rule (arith_row op a b) = numeric (arith op (Vₙ a) (Vₙ b)) (Dₙ a and Dₙ b)
  rule (negate_row a) = numeric (negate (Vₙ a)) (Dₙ a)
  rule (divide_row op a b) = numeric (divide_v op (Vₙ a) (Vₙ b)) (divide_d (Dₙ a) (Dₙ b) (Vₙ b))
  -- "Integer: V = h, D = g. Boolean: P = g ∧ h, N = g ∧ ¬h; relational N = ¬P."
  rule (lookup_row A i) = numeric (lookup A (index A i)) (guard A i)
  rule (lookup_b_row A i) = logical (guard A i and lookup_b A (index A i)) (refuted ρ (guard A i) (lookup_b A (index A i)))
  -- "boolToInt: V = boolToInt(Pa), D = Pa ∨ Na. Sum: V = sum of Va, D = forall of Da."
  rule (bool_to_int_row a) = numeric (bool_to_int (Pₙ a)) (Pₙ a or Nₙ a)
  rule (sum_row s a) = numeric (sum s (Vₙ a)) (quantify forall s (Dₙ a))
  -- "Comparison: P = (Da ∧ Db) ∧ (Va op Vb), N = (Da ∧ Db) ∧ ¬(Va op Vb); relational N = ¬P."
  rule (compare_row c a b) = logical ((Dₙ a and Dₙ b) and compare c (Vₙ a) (Vₙ b)) (refuted ρ (Dₙ a and Dₙ b) (compare c (Vₙ a) (Vₙ b)))
  -- "not: P = Na, N = Pa."
  rule (negation_row a) = logical (Nₙ a) (λ P. Pₙ a)
  rule (connect_row c a b) = logical (connect_p ρ c (Pₙ a) (Nₙ a) (Pₙ b) (Nₙ b)) (λ P. connect_n ρ c (Pₙ a) (Nₙ a) (Pₙ b) (Nₙ b))
  rule (quantify_row q s a) = logical (quantify_p ρ q s (Pₙ a) (Nₙ a)) (λ P. quantify_n ρ q s (Pₙ a) (Nₙ a))
