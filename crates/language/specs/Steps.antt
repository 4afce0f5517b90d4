-- Steps: "a leaf costs 1; other nodes 1 plus their operands' costs; a quantifier or sum 1 plus the number of slot values times the
-- body's cost." Over the natural numbers; neither an assignment nor a reading changes it.
use Rattle.std.specs.Prelude.{ℕ, ◌+◌, ◌*◌}
use Rattle.language.specs.Syntax.{IExp, constant, variable, slot, arith, divide, negate, bool_to_int, lookup, sum, iref, BExp, truth, variable_b, lookup_b, connect, negation, compare, quantify, bref, Declarations}
use Rattle.language.specs.Tables.{Tree, whole, bool}
use Rattle.language.specs.Meaning.{slot_at, count}

module _ (Γ : Declarations) where
  unfoldable mutual
    pub cost_i : IExp ⊥ → ℕ
    cost_i (constant z) = 1
    cost_i (variable v) = 1
    cost_i (slot s) = 1
    cost_i (arith op a b) = 1 + (cost_i a + cost_i b)
    cost_i (divide op a b) = 1 + (cost_i a + cost_i b)
    cost_i (negate a) = 1 + cost_i a
    cost_i (bool_to_int a) = 1 + cost_b a
    cost_i (lookup A i) = 1 + cost_i i
    cost_i (sum s a) = 1 + count (slot_at Γ s) * cost_i a
    cost_i (iref r) = absurd r

    pub cost_b : BExp ⊥ → ℕ
    cost_b (truth b) = 1
    cost_b (variable_b v) = 1
    cost_b (lookup_b A i) = 1 + cost_i i
    cost_b (connect c a b) = 1 + (cost_b a + cost_b b)
    cost_b (negation a) = 1 + cost_b a
    cost_b (compare c a b) = 1 + (cost_i a + cost_i b)
    cost_b (quantify q s a) = 1 + count (slot_at Γ s) * cost_b a
    cost_b (bref r) = absurd r

  unfoldable pub cost : Tree → ℕ
  cost (whole e) = cost_i e
  cost (bool e) = cost_b e
