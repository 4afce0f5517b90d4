-- Trials of number 8: "an integer node met with a value beyond it". Where a walk meets a number beyond the limit, at each place that it goes, and
-- where it does not go. Each row says whether every number met is within the limit, and holds under each reading.
use mathlib.Core.Path.{◌≡◌, refl}
use mathlib.Core.Bool.{Bool, true, false}
use mathlib.Core.List.{List, [], ◌∷◌, ◌++◌, map}
use lib.IntN.{ℤ, pos, negsuc}
use Rattle.language.specs.Syntax.{plus, minus, times, minimum, maximum, quot, rem, Connective, conj, disj, implies, iff, Comparison, equal, unequal, at_most, below, Quantifier, exists, forall, IExp, constant, variable, slot, arith, divide, negate, bool_to_int, lookup, sum, BExp, truth, variable_b, lookup_b, connect, negation, compare, quantify, boolean, integer, fixed, of_variable, Declarations}
use Rattle.language.specs.Readings.{Reading, strict, kleene, relational}
use Rattle.language.specs.Meaning.{Assignment}
use Rattle.language.proofs.Computed.{stays_i, stays_b}

-- variable 0 is beyond the limit, variable 1 is 1
abbrev assignment : Assignment
assignment = pos 2_000_000_001 ∷ pos 1 ∷ []

-- slot 0 has no value, slot 1 the one value 2,000,000,001, slot 2 the values 1..4; array 0 has a number beyond the limit, 5 and variable 0, array 1
-- false and true, both from index 1 on
abbrev Γ : Declarations
Γ =
    record {
      variables = [];
      slots = record { low = pos 1; high = pos 0 } ∷ record { low = pos 2_000_000_001; high = pos 2_000_000_001 } ∷ record { low = pos 1; high = pos 4 } ∷ [];
      arrays =
          record { sort = integer; first = pos 1; elements = fixed (pos 2_000_000_001) ∷ fixed (pos 5) ∷ of_variable 0 ∷ [] }
          ∷ record { sort = boolean; first = pos 1; elements = fixed (pos 0) ∷ fixed (pos 1) ∷ [] }
          ∷ [];
    }

-- ---- operands

abbrev number : ℤ → IExp ⊥
number z = constant z

abbrev large : IExp ⊥
large = number (pos 2_000_000_000)

abbrev beyond : IExp ⊥
beyond = number (pos 2_000_000_001)

abbrev undefined : IExp ⊥
undefined = divide quot (number (pos 1)) (number (pos 0))

-- a truth value whose walk meets a number beyond the limit
abbrev meets : BExp ⊥
meets = compare equal beyond (number (pos 1))

-- true, false, and undefined or false
abbrev others : List (BExp ⊥)
others = truth true ∷ truth false ∷ compare equal undefined (number (pos 1)) ∷ []

-- 1, 1, −1, −1 over the values of slot 2
abbrev there_and_back : IExp ⊥
there_and_back = arith minus (number (pos 1)) (arith times (number (pos 2)) (bool_to_int (compare below (number (pos 2)) (slot 2))))

-- ---- integer expressions

abbrev MetI : Type 0
MetI = IExp ⊥ × Bool

integers : List MetI
integers =
    -- constants at the limit and beyond it
    (large, true)
    ∷ (number (negsuc 1_999_999_999), true)
    ∷ (beyond, false)
    ∷ (number (negsuc 2_000_000_000), false)
    -- variables
    ∷ (variable 0, false)
    ∷ (variable 1, true)
    -- a slot
    ∷ (sum 1 (slot 1), false)
    ∷ (sum 1 (arith times (number (pos 0)) (slot 1)), false)
    ∷ (sum 2 (slot 2), true)
    -- the value of an operator alone
    ∷ (arith plus large (number (pos 1)), false)
    ∷ (arith minus (number (negsuc 1_999_999_999)) (number (pos 1)), false)
    ∷ (arith times large (number (pos 2)), false)
    ∷ (negate beyond, false)
    -- either operand, of an operator whose own value is within
    ∷ (arith plus beyond (number (negsuc 0)), false)
    ∷ (arith plus (number (negsuc 0)) beyond, false)
    ∷ (arith minus beyond (number (pos 1)), false)
    ∷ (arith minus (number (pos 1)) beyond, false)
    ∷ (arith times beyond (number (pos 0)), false)
    ∷ (arith times (number (pos 0)) beyond, false)
    ∷ (arith minimum beyond (number (pos 1)), false)
    ∷ (arith minimum (number (pos 1)) beyond, false)
    ∷ (arith maximum (number (negsuc 2_000_000_000)) (number (pos 1)), false)
    ∷ (arith maximum (number (pos 1)) (number (negsuc 2_000_000_000)), false)
    ∷ (divide quot beyond (number (pos 2)), false)
    ∷ (divide quot (number (pos 1)) beyond, false)
    ∷ (divide rem beyond (number (pos 2)), false)
    ∷ (divide rem (number (pos 1)) beyond, false)
    -- an operand of an undefined node, beside another that is undefined; an undefined node has no value
    ∷ (divide quot beyond (number (pos 0)), false)
    ∷ (arith plus beyond undefined, false)
    ∷ (arith plus undefined beyond, false)
    ∷ (divide quot large (number (pos 0)), true)
    -- under boolToInt, as an index, as an element that is looked up; not as one that is not
    ∷ (bool_to_int meets, false)
    ∷ (bool_to_int (truth true), true)
    ∷ (lookup 0 beyond, false)
    ∷ (lookup 0 (number (pos 1)), false)
    ∷ (lookup 0 (number (pos 3)), false)
    ∷ (lookup 0 (number (pos 2)), true)
    ∷ (lookup 0 (number (pos 4)), true)
    -- the body of a sum, at its last value alone, at its first alone; not over an empty range
    ∷ (sum 2 (arith times beyond (number (pos 0))), false)
    ∷ (sum 2 (divide quot (arith times (number (pos 600_000_000)) (slot 2)) (number (pos 4))), false)
    ∷ (sum 2 (divide quot (arith times (number (pos 600_000_000)) (arith minus (number (pos 5)) (slot 2))) (number (pos 4))), false)
    ∷ (sum 0 beyond, true)
    -- a sum beyond the limit; a partial sum, 4,000,000,000 on the way to 0, is no node's value
    ∷ (sum 2 large, false)
    ∷ (sum 2 (arith times large there_and_back), true)
    ∷ []

-- ---- Boolean expressions

abbrev MetB : Type 0
MetB = BExp ⊥ × Bool

-- a connective, with the number beyond the limit on either side and true, false or an undefined comparison on the other
abbrev connected : Connective → List MetB
connected c = map (λ e. (connect c meets e, false)) others ++ (map (λ e. (connect c e meets, false)) others ++ map (λ e. (connect c e e, true)) others)

-- a comparison, with it on either side and a number or an undefined one on the other
abbrev compared : Comparison → List MetB
compared c =
    (compare c beyond (number (pos 1)), false)
    ∷ (compare c (number (pos 1)) beyond, false)
    ∷ (compare c beyond undefined, false)
    ∷ (compare c undefined beyond, false)
    ∷ (compare c undefined large, true)
    ∷ []

-- a quantifier: in its body, by its slot's value, at its last value alone, at its first alone; not over an empty range
abbrev quantified : Quantifier → List MetB
quantified q =
    (quantify q 2 meets, false)
    ∷ (quantify q 1 (compare equal (slot 1) (number (pos 1))), false)
    ∷ (quantify q 2 (compare equal (arith times (number (pos 600_000_000)) (slot 2)) (number (pos 1))), false)
    ∷ (quantify q 2 (compare equal (arith times (number (pos 600_000_000)) (arith minus (number (pos 5)) (slot 2))) (number (pos 1))), false)
    ∷ (quantify q 2 (compare equal (slot 2) large), true)
    ∷ (quantify q 0 meets, true)
    ∷ []

truths : List MetB
truths =
    (truth true, true)
    ∷ (variable_b 1, true)
    ∷ (lookup_b 1 beyond, false)
    ∷ (lookup_b 1 undefined, true)
    ∷ (negation meets, false)
    ∷ (negation (negation meets), false)
    ∷ (connected conj ++ (connected disj ++ (connected implies ++ (connected iff ++ (compared equal ++ (compared unequal ++ (compared at_most ++ (compared below
    ++ (quantified exists ++ quantified forall)))))))))

integers-meet : (ρ : Reading) → map (λ r. stays_i assignment ρ Γ r.0) integers ≡ map (λ r. r.1) integers
unfolding integers stays_i
integers-meet strict = refl
integers-meet kleene = refl
integers-meet relational = refl

truths-meet : (ρ : Reading) → map (λ r. stays_b assignment ρ Γ r.0) truths ≡ map (λ r. r.1) truths
unfolding truths stays_b
truths-meet strict = refl
truths-meet kleene = refl
truths-meet relational = refl
