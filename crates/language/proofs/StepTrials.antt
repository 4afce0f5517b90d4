-- Trials of the steps: "a leaf costs 1; other nodes 1 plus their operands' costs; a quantifier or sum 1 plus the number of slot values times the body's
-- cost." Every operator over operands that cost 1 and 2, and each of these as the body of both quantifiers and of a sum, over ranges of 0, 1 and 3 values.
use mathlib.Core.Path.{◌≡◌, refl}
use Prim.Native.Nat.{ℕ, ◌+◌, ◌*◌}
use mathlib.Core.Bool.{true}
use mathlib.Core.List.{List, [], ◌∷◌, map}
use lib.IntN.{pos}
use Rattle.language.specs.Syntax.{plus, minus, times, minimum, maximum, quot, rem, conj, disj, implies, iff, equal, unequal, at_most, below, Quantifier, exists, forall, IExp, constant, variable, slot, arith, divide, negate, bool_to_int, lookup, sum, BExp, truth, variable_b, lookup_b, connect, negation, compare, quantify, Declarations}
use Rattle.language.proofs.Computed.{steps_i, steps_b}

-- slots of no value, of one and of three
abbrev slots-declared : Declarations
slots-declared =
    record {
      variables = [];
      slots = record { low = pos 1; high = pos 0 } ∷ record { low = pos 5; high = pos 5 } ∷ record { low = pos 1; high = pos 3 } ∷ [];
      arrays = [];
    }

-- integer expressions and truth values of cost 1 and 2
abbrev one : IExp ⊥
one = constant (pos 7)

abbrev two : IExp ⊥
two = negate one

abbrev T : BExp ⊥
T = truth true

abbrev not_T : BExp ⊥
not_T = negation T

-- ---- every operator

abbrev CostedI : Type 0
CostedI = IExp ⊥ × ℕ

abbrev CostedB : Type 0
CostedB = BExp ⊥ × ℕ

integers : List CostedI
integers =
    (one, 1)
    ∷ (variable 0, 1)
    ∷ (slot 0, 1)
    ∷ (arith plus one two, 4)
    ∷ (arith minus two one, 4)
    ∷ (arith times two two, 5)
    ∷ (arith minimum one two, 4)
    ∷ (arith maximum two one, 4)
    ∷ (divide quot one two, 4)
    ∷ (divide rem two one, 4)
    ∷ (two, 2)
    ∷ (negate two, 3)
    ∷ (bool_to_int T, 2)
    ∷ (bool_to_int not_T, 3)
    ∷ (lookup 0 one, 2)
    ∷ (lookup 0 two, 3)
    ∷ (sum 0 two, 1)
    ∷ (sum 1 two, 3)
    ∷ (sum 2 two, 7)
    ∷ []

truths : List CostedB
truths =
    (T, 1)
    ∷ (variable_b 0, 1)
    ∷ (lookup_b 0 one, 2)
    ∷ (lookup_b 0 two, 3)
    ∷ (connect conj T not_T, 4)
    ∷ (connect disj not_T T, 4)
    ∷ (connect implies not_T not_T, 5)
    ∷ (connect iff T not_T, 4)
    ∷ (not_T, 2)
    ∷ (negation not_T, 3)
    ∷ (compare equal one two, 4)
    ∷ (compare unequal two one, 4)
    ∷ (compare at_most two two, 5)
    ∷ (compare below one two, 4)
    ∷ (quantify exists 0 not_T, 1)
    ∷ (quantify exists 1 not_T, 3)
    ∷ (quantify exists 2 not_T, 7)
    ∷ (quantify forall 0 not_T, 1)
    ∷ (quantify forall 1 not_T, 3)
    ∷ (quantify forall 2 not_T, 7)
    ∷ []

integers-cost : map (λ r. steps_i slots-declared r.0) integers ≡ map (λ r. r.1) integers
unfolding integers steps_i
integers-cost = refl

truths-cost : map (λ r. steps_b slots-declared r.0) truths ≡ map (λ r. r.1) truths
unfolding truths steps_b
truths-cost = refl

-- ---- each as a body: once for each value of 0, 1 and 3

-- what a body of cost n makes over the three slots
abbrev over-ranges : ℕ → List ℕ
over-ranges n = 1 ∷ (1 + n) ∷ (1 + 3 * n) ∷ []

summed-cost : map (λ r. map (λ s. steps_i slots-declared (sum s r.0)) (0 ∷ 1 ∷ 2 ∷ [])) integers ≡ map (λ r. over-ranges r.1) integers
unfolding integers steps_i
summed-cost = refl

quantified-cost : (q : Quantifier) → map (λ r. map (λ s. steps_b slots-declared (quantify q s r.0)) (0 ∷ 1 ∷ 2 ∷ [])) truths ≡ map (λ r. over-ranges r.1) truths
unfolding truths steps_b
quantified-cost exists = refl
quantified-cost forall = refl
