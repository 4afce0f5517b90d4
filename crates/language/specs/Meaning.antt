-- The value of an expression: document 000's semantics with the reading as a parameter, over the declarations, an assignment
-- of the variables and a setting of the slots. And what it means that a walk stays within the limit (number 8).
use Rattle.std.specs.Prelude.{ℕ, suc, Bool, true, false, cond, ◌&&◌, List, [], eqb, ℤ, pos, neg_ℤ, ◌-ℤ◌, nat_abs, get_or}
use Rattle.std.proofs.Math.Option.{Option, none, some, map, bind}
use Rattle.std.proofs.Math.ListN.{get_elem?}
use Rattle.std.specs.Int.Signed.{le_z}
use Rattle.numbers.specs.Whole.{eq_z, within_limit}
use Rattle.language.specs.Syntax.{IExp, constant, variable, slot, arith, divide, negate, bool_to_int, lookup, sum, iref, BExp, truth, variable_b, lookup_b, connect, negation, compare, quantify, bref, integer, Slot, Element, fixed, of_variable, Array, Declarations}
use Rattle.language.specs.Readings.{Reading, both, arithmetic, division, comparison, connective, opposite, atomic, over, quantified, summed}

-- "The assignment is a list of signed 32-bit numbers, one per variable."
abbrev pub Assignment : Type 0
Assignment = List ℤ

-- the value of each slot
abbrev pub Setting : Type 0
Setting = ℕ → ℤ

-- "A quantifier binds its slot in its body, the innermost binding wins": the slot s has the value d, the others keep theirs.
unfoldable pub put : Setting → ℕ → ℤ → Setting
put σ s d t = cond (eqb t s) d (σ t)

-- what a number past the end of a list of declarations stands for: it is met in no sound table
unfoldable pub no_slot : Slot
no_slot = record { low = pos 1; high = pos 0 }

unfoldable pub no_array : Array
no_array = record { sort = integer; first = pos 0; elements = [] }

module _ (Γ : Declarations) where
  unfoldable pub slot_at : ℕ → Slot
  slot_at s = get_or Γ.slots s no_slot

  unfoldable pub array_at : ℕ → Array
  array_at a = get_or Γ.arrays a no_array

-- how many values a slot x..y has: "empty if y < x"
unfoldable pub count : Slot → ℕ
count s = cond (le_z s.low s.high) (suc (nat_abs (s.high -ℤ s.low))) 0

-- "constant x (0 or 1 in a bool array)": 1 is true
unfoldable pub is_one : ℤ → Bool
is_one z = eq_z z (pos 1)

unfoldable pub number : Bool → ℤ
number true = pos 1
number false = pos 0

module _ (α : Assignment) where
  unfoldable pub value_of : ℕ → ℤ
  value_of v = get_or α v (pos 0)

  unfoldable pub element_value : Element → ℤ
  element_value (fixed z) = z
  element_value (of_variable v) = value_of v

  -- the element at an index: "an index outside the array" is undefined
  unfoldable pub element_at : Array → ℤ → Option ℤ
  element_at A i = cond (le_z A.first i) (map element_value (get_elem? A.elements (nat_abs (i -ℤ A.first)))) none

module _ (ρ : Reading) (Γ : Declarations) (α : Assignment) where
  unfoldable mutual
    -- the value of an integer expression
    pub value_i : IExp ⊥ → Setting → Option ℤ
    value_i (constant z) σ = some z
    value_i (variable v) σ = some (value_of α v)
    value_i (slot s) σ = some (σ s)
    value_i (arith op a b) σ = both (λ x y. some (arithmetic op x y)) (value_i a σ) (value_i b σ)
    value_i (divide op a b) σ = both (division op) (value_i a σ) (value_i b σ)
    value_i (negate a) σ = map neg_ℤ (value_i a σ)
    value_i (bool_to_int a) σ = map number (value_b a σ)
    value_i (lookup A i) σ = bind (value_i i σ) (element_at α (array_at Γ A))
    value_i (sum s a) σ = summed (slot_at Γ s).low (count (slot_at Γ s)) (λ d. value_i a (put σ s d))
    value_i (iref r) σ = absurd r

    -- the value of a Boolean expression
    pub value_b : BExp ⊥ → Setting → Option Bool
    value_b (truth b) σ = some b
    value_b (variable_b v) σ = some (is_one (value_of α v))
    value_b (lookup_b A i) σ = atomic ρ (map is_one (bind (value_i i σ) (element_at α (array_at Γ A))))
    value_b (connect c a b) σ = connective ρ c (value_b a σ) (value_b b σ)
    value_b (negation a) σ = opposite (value_b a σ)
    value_b (compare c a b) σ = atomic ρ (both (λ x y. some (comparison c x y)) (value_i a σ) (value_i b σ))
    value_b (quantify q s a) σ = quantified ρ q (slot_at Γ s).low (count (slot_at Γ s)) (λ d. value_b a (put σ s d))
    value_b (bref r) σ = absurd r

-- ---- number 8 of evaluation: "an integer node met with a value beyond it"

-- an undefined node has no value to test
unfoldable pub value_within : Option ℤ → Bool
value_within none = true
value_within (some z) = within_limit z

-- for all values of a range
unfoldable pub throughout : ℤ → ℕ → (ℤ → Bool) → Bool
throughout = over ◌&&◌ true

module _ (ρ : Reading) (Γ : Declarations) (α : Assignment) where
  unfoldable mutual
    -- No integer expression met has a value beyond the limit. Met: the expression itself, its operands whatever the others gave,
    -- a body for each value of its slot.
    pub met_within_i : IExp ⊥ → Setting → Bool
    met_within_i (constant z) σ = within_limit z
    met_within_i (variable v) σ = within_limit (value_of α v)
    met_within_i (slot s) σ = within_limit (σ s)
    met_within_i (arith op a b) σ = met_within_i a σ && met_within_i b σ && value_within (value_i ρ Γ α (arith op a b) σ)
    met_within_i (divide op a b) σ = met_within_i a σ && met_within_i b σ && value_within (value_i ρ Γ α (divide op a b) σ)
    met_within_i (negate a) σ = met_within_i a σ && value_within (value_i ρ Γ α (negate a) σ)
    met_within_i (bool_to_int a) σ = met_within_b a σ
    met_within_i (lookup A i) σ = met_within_i i σ && value_within (value_i ρ Γ α (lookup A i) σ)
    met_within_i (sum s a) σ = throughout (slot_at Γ s).low (count (slot_at Γ s)) (λ d. met_within_i a (put σ s d)) && value_within (value_i ρ Γ α (sum s a) σ)
    met_within_i (iref r) σ = absurd r

    pub met_within_b : BExp ⊥ → Setting → Bool
    met_within_b (truth b) σ = true
    met_within_b (variable_b v) σ = true
    met_within_b (lookup_b A i) σ = met_within_i i σ
    met_within_b (connect c a b) σ = met_within_b a σ && met_within_b b σ
    met_within_b (negation a) σ = met_within_b a σ
    met_within_b (compare c a b) σ = met_within_i a σ && met_within_i b σ
    met_within_b (quantify q s a) σ = throughout (slot_at Γ s).low (count (slot_at Γ s)) (λ d. met_within_b a (put σ s d))
    met_within_b (bref r) σ = absurd r
