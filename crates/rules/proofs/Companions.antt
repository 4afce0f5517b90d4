-- The companions of a tree: the rules of document 01 followed down to the leaves, with the operands' companions in place of references.
use Prim.Native.Nat.{ℕ}
use mathlib.Core.Bool.{true}
use Rattle.language.specs.Syntax.{forall, IExp, constant, variable, slot, arith, divide, negate, bool_to_int, lookup, sum, iref, BExp, truth, variable_b, lookup_b, connect, negation, compare, quantify, bref, Declarations}
use Rattle.language.specs.Readings.{Reading}
use Rattle.language.specs.Meaning.{array_at}
use Rattle.rules.specs.Formulas.{◌and◌, ◌or◌, divide_v, divide_d, inside, clamped, refuted, connect_p, connect_n, quantify_p, quantify_n}
use Rattle.rules.specs.Rules.{last}

module _ (ρ : Reading) (Γ : Declarations) where
  -- g and h's index, over the index's companions
  unfoldable pub guard_of : ℕ → BExp ⊥ → IExp ⊥ → BExp ⊥
  guard_of A Di Vi = inside (array_at Γ A).first (last (array_at Γ A)) Di Vi

  unfoldable pub index_of : ℕ → IExp ⊥ → IExp ⊥
  index_of A Vi = clamped (array_at Γ A).first (last (array_at Γ A)) Vi

  unfoldable mutual
    -- V
    pub Vᵗ : IExp ⊥ → IExp ⊥
    Vᵗ (constant z) = constant z
    Vᵗ (variable v) = variable v
    Vᵗ (slot s) = slot s
    Vᵗ (arith op a b) = arith op (Vᵗ a) (Vᵗ b)
    Vᵗ (divide op a b) = divide_v op (Vᵗ a) (Vᵗ b)
    Vᵗ (negate a) = negate (Vᵗ a)
    Vᵗ (bool_to_int a) = bool_to_int (Pᵗ a)
    Vᵗ (lookup A i) = lookup A (index_of A (Vᵗ i))
    Vᵗ (sum s a) = sum s (Vᵗ a)
    Vᵗ (iref r) = absurd r

    -- D
    pub Dᵗ : IExp ⊥ → BExp ⊥
    Dᵗ (constant z) = truth true
    Dᵗ (variable v) = truth true
    Dᵗ (slot s) = truth true
    Dᵗ (arith op a b) = Dᵗ a and Dᵗ b
    Dᵗ (divide op a b) = divide_d (Dᵗ a) (Dᵗ b) (Vᵗ b)
    Dᵗ (negate a) = Dᵗ a
    Dᵗ (bool_to_int a) = Pᵗ a or Nᵗ a
    Dᵗ (lookup A i) = guard_of A (Dᵗ i) (Vᵗ i)
    Dᵗ (sum s a) = quantify forall s (Dᵗ a)
    Dᵗ (iref r) = absurd r

    -- P
    pub Pᵗ : BExp ⊥ → BExp ⊥
    Pᵗ (truth b) = truth b
    Pᵗ (variable_b v) = variable_b v
    Pᵗ (lookup_b A i) = guard_of A (Dᵗ i) (Vᵗ i) and lookup_b A (index_of A (Vᵗ i))
    Pᵗ (connect c a b) = connect_p ρ c (Pᵗ a) (Nᵗ a) (Pᵗ b) (Nᵗ b)
    Pᵗ (negation a) = Nᵗ a
    Pᵗ (compare c a b) = (Dᵗ a and Dᵗ b) and compare c (Vᵗ a) (Vᵗ b)
    Pᵗ (quantify q s a) = quantify_p ρ q s (Pᵗ a) (Nᵗ a)
    Pᵗ (bref r) = absurd r

    -- N
    pub Nᵗ : BExp ⊥ → BExp ⊥
    Nᵗ (truth b) = negation (truth b)
    Nᵗ (variable_b v) = negation (variable_b v)
    Nᵗ (lookup_b A i) = refuted ρ (guard_of A (Dᵗ i) (Vᵗ i)) (lookup_b A (index_of A (Vᵗ i))) (guard_of A (Dᵗ i) (Vᵗ i) and lookup_b A (index_of A (Vᵗ i)))
    Nᵗ (connect c a b) = connect_n ρ c (Pᵗ a) (Nᵗ a) (Pᵗ b) (Nᵗ b)
    Nᵗ (negation a) = Pᵗ a
    Nᵗ (compare c a b) = refuted ρ (Dᵗ a and Dᵗ b) (compare c (Vᵗ a) (Vᵗ b)) ((Dᵗ a and Dᵗ b) and compare c (Vᵗ a) (Vᵗ b))
    Nᵗ (quantify q s a) = quantify_n ρ q s (Pᵗ a) (Nᵗ a)
    Nᵗ (bref r) = absurd r
