-- Trials of the three readings, each one computed claim about a table of rows: a row worked out again is itself. The tables are document
-- 000's: its Kleene tables, its strict rule ("any compound expression is undefined whenever one of its sub-expressions is") and its relational
-- rule, over all three-valued operands.
--
-- T, F and U are expressions: true, false, and the comparison 1 div 0 = 1, which is undefined under strict and Kleene and false under
-- relational. So a row of the relational reading shows what an undefined operand makes of the operator there.
use mathlib.Core.Path.{◌≡◌, refl}
use Prim.Native.Nat.{ℕ}
use mathlib.Core.Bool.{Bool, true, false}
use mathlib.Core.List.{List, [], ◌∷◌, ◌++◌, map}
use mathlib.Core.Option.{Option, none, some}
use lib.IntN.{ℤ, pos, negsuc}
use Rattle.language.specs.Syntax.{plus, minus, times, minimum, maximum, quot, rem, Connective, conj, disj, implies, iff, Comparison, equal, unequal, at_most, below, Quantifier, exists, forall, IExp, constant, variable, slot, arith, divide, negate, bool_to_int, lookup, sum, BExp, truth, variable_b, lookup_b, connect, negation, compare, quantify, boolean, integer, fixed, of_variable, Declarations}
use Rattle.language.specs.Readings.{Reading, strict, kleene, relational}
use Rattle.language.proofs.Computed.{worth_i-at, worth_b, worth_i}

-- ---- operands

-- no declarations
abbrev none-declared : Declarations
none-declared = record { variables = []; slots = []; arrays = [] }

abbrev zero-divided : IExp ⊥
zero-divided = divide quot (constant (pos 1)) (constant (pos 0))

abbrev T : BExp ⊥
T = truth true

abbrev F : BExp ⊥
F = truth false

abbrev U : BExp ⊥
U = compare equal zero-divided (constant (pos 1))

-- values
abbrev t : Option Bool
t = some true

abbrev f : Option Bool
f = some false

abbrev u : Option Bool
u = none

-- ---- connectives: first operand T, F, U down, second operand T, F, U across

record Connected : Type 0 where
  reading : Reading
  connective : Connective
  values : List (Option Bool)

abbrev connected : Reading → Connective → List (Option Bool) → Connected
connected ρ c vs = record { reading = ρ; connective = c; values = vs }

pairs : List (BExp ⊥ × BExp ⊥)
pairs = (T, T) ∷ (T, F) ∷ (T, U) ∷ (F, T) ∷ (F, F) ∷ (F, U) ∷ (U, T) ∷ (U, F) ∷ (U, U) ∷ []

connections : List Connected
connections =
    connected strict conj (t ∷ f ∷ u ∷ f ∷ f ∷ u ∷ u ∷ u ∷ u ∷ [])
    ∷ connected strict disj (t ∷ t ∷ u ∷ t ∷ f ∷ u ∷ u ∷ u ∷ u ∷ [])
    ∷ connected strict implies (t ∷ f ∷ u ∷ t ∷ t ∷ u ∷ u ∷ u ∷ u ∷ [])
    ∷ connected strict iff (t ∷ f ∷ u ∷ f ∷ t ∷ u ∷ u ∷ u ∷ u ∷ [])
    ∷ connected kleene conj (t ∷ f ∷ u ∷ f ∷ f ∷ f ∷ u ∷ f ∷ u ∷ [])
    ∷ connected kleene disj (t ∷ t ∷ t ∷ t ∷ f ∷ u ∷ t ∷ u ∷ u ∷ [])
    ∷ connected kleene implies (t ∷ f ∷ u ∷ t ∷ t ∷ t ∷ t ∷ u ∷ u ∷ [])
    ∷ connected kleene iff (t ∷ f ∷ u ∷ f ∷ t ∷ u ∷ u ∷ u ∷ u ∷ [])
    ∷ connected relational conj (t ∷ f ∷ f ∷ f ∷ f ∷ f ∷ f ∷ f ∷ f ∷ [])
    ∷ connected relational disj (t ∷ t ∷ t ∷ t ∷ f ∷ f ∷ t ∷ f ∷ f ∷ [])
    ∷ connected relational implies (t ∷ f ∷ f ∷ t ∷ t ∷ t ∷ t ∷ t ∷ t ∷ [])
    ∷ connected relational iff (t ∷ f ∷ f ∷ f ∷ t ∷ t ∷ f ∷ t ∷ t ∷ [])
    ∷ []

connections-hold :
    map (λ r. connected r.reading r.connective (map (λ p. worth_b r.reading none-declared (connect r.connective p.0 p.1)) pairs)) connections ≡ connections
unfolding connections pairs worth_b
connections-hold = refl

-- ---- leaves and integer operators, the same in each reading

-- variables 0 to 2, which are −5, 0 and 1; the second and the third are Boolean too
record Worked : Type 0 where
  expression : IExp ⊥
  value : Option ℤ

abbrev worked : IExp ⊥ → ℤ → Worked
worked e z = record { expression = e; value = some z }

abbrev no_value : IExp ⊥ → Worked
no_value e = record { expression = e; value = none }

abbrev seven : IExp ⊥
seven = constant (pos 7)

abbrev minus-two : IExp ⊥
minus-two = constant (negsuc 1)

-- every operator on 7 and −2 both ways; no two operators give the same two values
calculations : List Worked
calculations =
    worked seven (pos 7)
    ∷ worked minus-two (negsuc 1)
    ∷ worked (variable 0) (negsuc 4)
    ∷ worked (variable 2) (pos 1)
    ∷ worked (slot 4) (pos 0)
    ∷ worked (arith plus seven minus-two) (pos 5)
    ∷ worked (arith minus seven minus-two) (pos 9)
    ∷ worked (arith minus minus-two seven) (negsuc 8)
    ∷ worked (arith times seven minus-two) (negsuc 13)
    ∷ worked (arith minimum seven minus-two) (negsuc 1)
    ∷ worked (arith minimum minus-two seven) (negsuc 1)
    ∷ worked (arith maximum seven minus-two) (pos 7)
    ∷ worked (arith maximum minus-two seven) (pos 7)
    ∷ worked (divide quot seven minus-two) (negsuc 2)
    ∷ worked (divide quot minus-two seven) (pos 0)
    ∷ worked (divide rem seven minus-two) (pos 1)
    ∷ worked (divide rem minus-two seven) (negsuc 1)
    ∷ worked (negate seven) (negsuc 6)
    ∷ worked (negate minus-two) (pos 2)
    ∷ worked (bool_to_int (variable_b 1)) (pos 0)
    ∷ worked (bool_to_int (variable_b 2)) (pos 1)
    ∷ no_value (divide quot seven (constant (pos 0)))
    ∷ no_value (divide rem seven (constant (pos 0)))
    ∷ no_value (negate zero-divided)
    ∷ (map (λ op. no_value (arith op zero-divided seven)) (plus ∷ minus ∷ times ∷ minimum ∷ maximum ∷ [])
    ++ (map (λ op. no_value (arith op seven zero-divided)) (plus ∷ minus ∷ times ∷ minimum ∷ maximum ∷ [])
    ++ (map (λ op. no_value (divide op zero-divided seven)) (quot ∷ rem ∷ []) ++ map (λ op. no_value (divide op seven zero-divided)) (quot ∷ rem ∷ []))))

calculations-hold : (ρ : Reading) → map (λ r. worth_i-at (negsuc 4 ∷ pos 0 ∷ pos 1 ∷ []) ρ none-declared r.expression) calculations ≡ map (λ r. r.value) calculations
unfolding calculations worth_i-at
calculations-hold strict = refl
calculations-hold kleene = refl
calculations-hold relational = refl

-- ---- not and boolToInt of T, F, U

record Unary : Type 0 where
  reading : Reading
  opposites : List (Option Bool)
  numbers : List (Option ℤ)

abbrev unary : Reading → List (Option Bool) → List (Option ℤ) → Unary
unary ρ bs zs = record { reading = ρ; opposites = bs; numbers = zs }

unaries : List Unary
unaries =
    unary strict (f ∷ t ∷ u ∷ []) (some (pos 1) ∷ some (pos 0) ∷ none ∷ [])
    ∷ unary kleene (f ∷ t ∷ u ∷ []) (some (pos 1) ∷ some (pos 0) ∷ none ∷ [])
    ∷ unary relational (f ∷ t ∷ t ∷ []) (some (pos 1) ∷ some (pos 0) ∷ some (pos 0) ∷ [])
    ∷ []

unaries-hold :
    map
    (λ r. unary r.reading
    (map (λ a. worth_b r.reading none-declared (negation a)) (T ∷ F ∷ U ∷ []))
    (map (λ a. worth_i r.reading none-declared (bool_to_int a)) (T ∷ F ∷ U ∷ [])))
    unaries ≡ unaries
unfolding unaries worth_b worth_i
unaries-hold = refl

-- ---- comparisons: first operand 1, 2, 1 div 0 down, second operand across

record Compared : Type 0 where
  reading : Reading
  comparison : Comparison
  values : List (Option Bool)

abbrev compared : Reading → Comparison → List (Option Bool) → Compared
compared ρ c vs = record { reading = ρ; comparison = c; values = vs }

number_pairs : List (IExp ⊥ × IExp ⊥)
number_pairs =
    let one : IExp ⊥ = constant (pos 1) in
    let two : IExp ⊥ = constant (pos 2) in
    (one, one) ∷ (one, two) ∷ (one, zero-divided) ∷ (two, one) ∷ (two, two) ∷ (two, zero-divided) ∷ (zero-divided, one)
    ∷ (zero-divided, two) ∷ (zero-divided, zero-divided) ∷ []

comparisons : List Compared
comparisons =
    compared strict equal (t ∷ f ∷ u ∷ f ∷ t ∷ u ∷ u ∷ u ∷ u ∷ [])
    ∷ compared strict unequal (f ∷ t ∷ u ∷ t ∷ f ∷ u ∷ u ∷ u ∷ u ∷ [])
    ∷ compared strict at_most (t ∷ t ∷ u ∷ f ∷ t ∷ u ∷ u ∷ u ∷ u ∷ [])
    ∷ compared strict below (f ∷ t ∷ u ∷ f ∷ f ∷ u ∷ u ∷ u ∷ u ∷ [])
    ∷ compared kleene equal (t ∷ f ∷ u ∷ f ∷ t ∷ u ∷ u ∷ u ∷ u ∷ [])
    ∷ compared kleene unequal (f ∷ t ∷ u ∷ t ∷ f ∷ u ∷ u ∷ u ∷ u ∷ [])
    ∷ compared kleene at_most (t ∷ t ∷ u ∷ f ∷ t ∷ u ∷ u ∷ u ∷ u ∷ [])
    ∷ compared kleene below (f ∷ t ∷ u ∷ f ∷ f ∷ u ∷ u ∷ u ∷ u ∷ [])
    ∷ compared relational equal (t ∷ f ∷ f ∷ f ∷ t ∷ f ∷ f ∷ f ∷ f ∷ [])
    ∷ compared relational unequal (f ∷ t ∷ f ∷ t ∷ f ∷ f ∷ f ∷ f ∷ f ∷ [])
    ∷ compared relational at_most (t ∷ t ∷ f ∷ f ∷ t ∷ f ∷ f ∷ f ∷ f ∷ [])
    ∷ compared relational below (f ∷ t ∷ f ∷ f ∷ f ∷ f ∷ f ∷ f ∷ f ∷ [])
    ∷ []

comparisons-hold :
    map (λ r. compared r.reading r.comparison (map (λ p. worth_b r.reading none-declared (compare r.comparison p.0 p.1)) number_pairs)) comparisons ≡ comparisons
unfolding comparisons number_pairs worth_b
comparisons-hold = refl

-- ---- lookups: arrays of three elements from index 1 on, one of them a variable; index 0, 1, 2, 3, 4, 1 div 0

-- truth values false, true, variable 1 (which is 1); numbers 1, 4, variable 0 (which is 3)
abbrev arrays-declared : Declarations
arrays-declared =
    record {
      variables = [];
      slots = [];
      arrays =
          record { sort = boolean; first = pos 1; elements = fixed (pos 0) ∷ fixed (pos 1) ∷ of_variable 1 ∷ [] }
          ∷ record { sort = integer; first = pos 1; elements = fixed (pos 1) ∷ fixed (pos 4) ∷ of_variable 0 ∷ [] }
          ∷ [];
    }

record Looked : Type 0 where
  reading : Reading
  truths : List (Option Bool)
  numbers : List (Option ℤ)

abbrev looked : Reading → List (Option Bool) → List (Option ℤ) → Looked
looked ρ bs zs = record { reading = ρ; truths = bs; numbers = zs }

indices : List (IExp ⊥)
indices = constant (pos 0) ∷ constant (pos 1) ∷ constant (pos 2) ∷ constant (pos 3) ∷ constant (pos 4) ∷ zero-divided ∷ []

lookups : List Looked
lookups =
    looked strict (u ∷ f ∷ t ∷ t ∷ u ∷ u ∷ []) (none ∷ some (pos 1) ∷ some (pos 4) ∷ some (pos 3) ∷ none ∷ none ∷ [])
    ∷ looked kleene (u ∷ f ∷ t ∷ t ∷ u ∷ u ∷ []) (none ∷ some (pos 1) ∷ some (pos 4) ∷ some (pos 3) ∷ none ∷ none ∷ [])
    ∷ looked relational (f ∷ f ∷ t ∷ t ∷ f ∷ f ∷ []) (none ∷ some (pos 1) ∷ some (pos 4) ∷ some (pos 3) ∷ none ∷ none ∷ [])
    ∷ []

lookups-hold :
    map
    (λ r. looked r.reading
    (map (λ i. worth_b r.reading arrays-declared (lookup_b 0 i)) indices)
    (map (λ i. worth_i r.reading arrays-declared (lookup 1 i)) indices))
    lookups ≡ lookups
unfolding lookups indices worth_b worth_i
lookups-hold = refl

-- ---- quantifiers and sums over ranges of 0 to 3 values, for every way that the body can go

-- How a body goes at the values 1, 2, .. of its slot: 1 for true, 0 for false, 2 for undefined. The body looks its truth value up by that
-- number in an array of false and true, where 2 is outside.
abbrev Pattern : Type 0
Pattern = List ℤ

abbrev pattern_declared : Pattern → ℕ → Declarations
pattern_declared p n =
    record {
      variables = [];
      slots = record { low = pos 1; high = pos n } ∷ [];
      arrays =
          record { sort = boolean; first = pos 0; elements = fixed (pos 0) ∷ fixed (pos 1) ∷ [] }
          ∷ record { sort = integer; first = pos 1; elements = map fixed p }
          ∷ record { sort = integer; first = pos 0; elements = fixed (pos 0) ∷ fixed (pos 1) ∷ [] }
          ∷ [];
    }

abbrev body_b : BExp ⊥
body_b = lookup_b 0 (lookup 1 (slot 0))

abbrev body_i : IExp ⊥
body_i = lookup 2 (lookup 1 (slot 0))

-- a range of 0 to 3 values and the patterns over it: the first value moves slowest, in the order 1, 0, 2
record Range : Type 0 where
  size : ℕ
  patterns : List Pattern

abbrev range : ℕ → List Pattern → Range
range n ps = record { size = n; patterns = ps }

-- every pattern of 1, 0, 2 in front of each of the others
extended : List Pattern → List Pattern
extended ps = map (λ p. pos 1 ∷ p) ps ++ (map (λ p. pos 0 ∷ p) ps ++ map (λ p. pos 2 ∷ p) ps)

ranges : List Range
unfolding extended
ranges =
    let one : List Pattern = extended ([] ∷ []) in
    let two : List Pattern = extended one in
    range 0 ([] ∷ []) ∷ range 1 one ∷ range 2 two ∷ range 3 (extended two) ∷ []

record Quantified : Type 0 where
  reading : Reading
  quantifier : Quantifier
  values : List (List (Option Bool))

abbrev quantified : Reading → Quantifier → List (List (Option Bool)) → Quantified
quantified ρ q vs = record { reading = ρ; quantifier = q; values = vs }

quantifications : List Quantified
quantifications =
    quantified strict exists
    ((f ∷ [])
    ∷ (t ∷ f ∷ u ∷ [])
    ∷ (t ∷ t ∷ u ∷ t ∷ f ∷ u ∷ u ∷ u ∷ u ∷ [])
    ∷ (t ∷ t ∷ u ∷ t ∷ t ∷ u ∷ u ∷ u ∷ u ∷ t ∷ t ∷ u ∷ t ∷ f ∷ u ∷ u ∷ u ∷ u ∷ u ∷ u ∷ u ∷ u ∷ u ∷ u ∷ u ∷ u ∷ u ∷ [])
    ∷ [])
    ∷ quantified strict forall
    ((t ∷ [])
    ∷ (t ∷ f ∷ u ∷ [])
    ∷ (t ∷ f ∷ u ∷ f ∷ f ∷ u ∷ u ∷ u ∷ u ∷ [])
    ∷ (t ∷ f ∷ u ∷ f ∷ f ∷ u ∷ u ∷ u ∷ u ∷ f ∷ f ∷ u ∷ f ∷ f ∷ u ∷ u ∷ u ∷ u ∷ u ∷ u ∷ u ∷ u ∷ u ∷ u ∷ u ∷ u ∷ u ∷ [])
    ∷ [])
    ∷ quantified kleene exists
    ((f ∷ [])
    ∷ (t ∷ f ∷ u ∷ [])
    ∷ (t ∷ t ∷ t ∷ t ∷ f ∷ u ∷ t ∷ u ∷ u ∷ [])
    ∷ (t ∷ t ∷ t ∷ t ∷ t ∷ t ∷ t ∷ t ∷ t ∷ t ∷ t ∷ t ∷ t ∷ f ∷ u ∷ t ∷ u ∷ u ∷ t ∷ t ∷ t ∷ t ∷ u ∷ u ∷ t ∷ u ∷ u ∷ [])
    ∷ [])
    ∷ quantified kleene forall
    ((t ∷ [])
    ∷ (t ∷ f ∷ u ∷ [])
    ∷ (t ∷ f ∷ u ∷ f ∷ f ∷ f ∷ u ∷ f ∷ u ∷ [])
    ∷ (t ∷ f ∷ u ∷ f ∷ f ∷ f ∷ u ∷ f ∷ u ∷ f ∷ f ∷ f ∷ f ∷ f ∷ f ∷ f ∷ f ∷ f ∷ u ∷ f ∷ u ∷ f ∷ f ∷ f ∷ u ∷ f ∷ u ∷ [])
    ∷ [])
    ∷ quantified relational exists
    ((f ∷ [])
    ∷ (t ∷ f ∷ f ∷ [])
    ∷ (t ∷ t ∷ t ∷ t ∷ f ∷ f ∷ t ∷ f ∷ f ∷ [])
    ∷ (t ∷ t ∷ t ∷ t ∷ t ∷ t ∷ t ∷ t ∷ t ∷ t ∷ t ∷ t ∷ t ∷ f ∷ f ∷ t ∷ f ∷ f ∷ t ∷ t ∷ t ∷ t ∷ f ∷ f ∷ t ∷ f ∷ f ∷ [])
    ∷ [])
    ∷ quantified relational forall
    ((t ∷ [])
    ∷ (t ∷ f ∷ f ∷ [])
    ∷ (t ∷ f ∷ f ∷ f ∷ f ∷ f ∷ f ∷ f ∷ f ∷ [])
    ∷ (t ∷ f ∷ f ∷ f ∷ f ∷ f ∷ f ∷ f ∷ f ∷ f ∷ f ∷ f ∷ f ∷ f ∷ f ∷ f ∷ f ∷ f ∷ f ∷ f ∷ f ∷ f ∷ f ∷ f ∷ f ∷ f ∷ f ∷ [])
    ∷ [])
    ∷ []

quantifications-hold :
    map
    (λ r. quantified r.reading r.quantifier
    (map (λ g. map (λ p. worth_b r.reading (pattern_declared p g.size) (quantify r.quantifier 0 body_b)) g.patterns) ranges))
    quantifications ≡ quantifications
unfolding quantifications ranges worth_b
quantifications-hold = refl

-- the sum of the same bodies, "undefined if its body is for some slot value", in each reading
sums : List (List (Option ℤ))
sums =
    (some (pos 0) ∷ [])
    ∷ (some (pos 1) ∷ some (pos 0) ∷ none ∷ [])
    ∷ (some (pos 2) ∷ some (pos 1) ∷ none ∷ some (pos 1) ∷ some (pos 0) ∷ none ∷ none ∷ none ∷ none ∷ [])
    ∷ (some (pos 3) ∷ some (pos 2) ∷ none ∷ some (pos 2) ∷ some (pos 1) ∷ none ∷ none ∷ none ∷ none ∷ some (pos 2) ∷ some (pos 1) ∷ none ∷ some (pos 1) ∷ some (pos 0) ∷ none ∷ none ∷ none ∷ none ∷ none ∷ none ∷ none ∷ none ∷ none ∷ none ∷ none ∷ none ∷ none ∷ [])
    ∷ []

sums-hold :
    map (λ ρ. map (λ g. map (λ p. worth_i ρ (pattern_declared p g.size) (sum 0 body_i)) g.patterns) ranges) (strict ∷ kleene ∷ relational ∷ [])
    ≡ sums ∷ sums ∷ sums ∷ []
unfolding sums ranges worth_i
sums-hold = refl

-- ---- shadowed slots: "the innermost binding wins", and behind an inner binding the outer one is back

-- one slot, 1..2
abbrev slot-declared : Declarations
slot-declared = record { variables = []; slots = record { low = pos 1; high = pos 2 } ∷ []; arrays = [] }

abbrev inner : IExp ⊥
inner = sum 0 (slot 0)

record Shadowed : Type 0 where
  expression : IExp ⊥
  value : Option ℤ

abbrev shadowed : IExp ⊥ → ℤ → Shadowed
shadowed e z = record { expression = e; value = some z }

-- Σ s·(Σ s) is 3·3, Σ (10·(Σ s) + s) is 60 + 3, Σ (s + 10·(Σ s)) the same; ∃ s. (s = 1 ∧ ∃ s. s = 2) and ∀ s. ∃ s. s = 2 hold
shadows : List Shadowed
shadows =
    shadowed (sum 0 (arith times (slot 0) inner)) (pos 9)
    ∷ shadowed (sum 0 (arith plus (arith times (constant (pos 10)) inner) (slot 0))) (pos 63)
    ∷ shadowed (sum 0 (arith plus (slot 0) (arith times (constant (pos 10)) inner))) (pos 63)
    ∷ shadowed (bool_to_int (quantify exists 0 (connect conj (compare equal (slot 0) (constant (pos 1))) (quantify exists 0 (compare equal (slot 0) (constant (pos 2))))))) (pos 1)
    ∷ shadowed (bool_to_int (quantify forall 0 (quantify exists 0 (compare equal (slot 0) (constant (pos 2)))))) (pos 1)
    ∷ []

shadows-hold : (ρ : Reading) → map (λ r. worth_i ρ slot-declared r.expression) shadows ≡ map (λ r. r.value) shadows
unfolding shadows worth_i
shadows-hold strict = refl
shadows-hold kleene = refl
shadows-hold relational = refl
