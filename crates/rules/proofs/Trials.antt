-- Trials of the rules and the bounds, each one computed claim about a table of rows. The rows that a rule writes are document 01's
-- formulas written out by hand: operands first, left to right, V before D, P before N.
use mathlib.Core.Path.{◌≡◌, refl}
use Prim.Native.Nat.{ℕ}
use mathlib.Core.Bool.{true, false}
use mathlib.Core.List.{List, [], ◌∷◌, map}
use lib.IntN.{ℤ, pos, negsuc}
use lib.ListN.{get_or, length, drop}
use Rattle.numbers.specs.Whole as Whole
use Rattle.language.specs.Syntax.{plus, minus, times, minimum, maximum, quot, rem, conj, disj, implies, iff, equal, unequal, at_most, below, exists, forall, IExp, constant, variable, slot, arith, divide, negate, bool_to_int, lookup, sum, truth, boolean, integer, fixed, of_variable, Declarations}
use Rattle.language.specs.Readings.{Reading, strict, kleene, relational}
use Rattle.language.specs.Tables.{Row, constant_row, variable_row, slot_row, arith_row, divide_row, negate_row, bool_to_int_row, lookup_row, sum_row, truth_row, variable_b_row, lookup_b_row, connect_row, negation_row, compare_row, quantify_row}
use Rattle.language.specs.Meaning as Meaning
use Rattle.rules.specs.Bounds as Bounds
use Rattle.rules.specs.Bounds.{Interval, ◌to◌, interval}
use Rattle.rules.specs.Formulas as Formulas
use Rattle.rules.specs.Rules as Rules
use Rattle.rules.specs.Writing as Writing
use Rattle.rules.specs.Writing.{Translated, translate_rows}

-- ---- rules

-- an integer array with the indices 5..7, a Boolean one with the same; both companions' numbers are checked
abbrev arrays-declared : Declarations
arrays-declared =
    record {
      variables = [];
      slots = [];
      arrays =
          record { sort = integer; first = pos 5; elements = fixed (pos 1) ∷ fixed (pos 4) ∷ fixed (pos 9) ∷ [] }
          ∷ record { sort = boolean; first = pos 5; elements = fixed (pos 0) ∷ fixed (pos 1) ∷ fixed (pos 1) ∷ [] }
          ∷ [];
    }

-- What is written for a node over one or two leaves. A leaf writes two rows, so the leaves' companions are 0 and 1, 2 and 3, and what the
-- node writes begins with 2 or 4.
record Rule : Type 0 where
  readings : List Reading
  leaves : List Row
  node : Row
  written : List Row
  first : ℕ
  second : ℕ

abbrev rule : List Reading → List Row → Row → List Row → ℕ → ℕ → Rule
rule ρs ls r w i j = record { readings = ρs; leaves = ls; node = r; written = w; first = i; second = j }

record Pieces : Type 0 where
  rows : List Row
  first : ℕ
  second : ℕ

abbrev pieces : List Row → ℕ → ℕ → Pieces
pieces w i j = record { rows = w; first = i; second = j }

-- what the definitions write for the node that stands last
translate_last : Reading → List Row → Row → Pieces
unfolding translate_rows Writing.translate_after Writing.step Writing.append Writing.nothing_yet Writing.rule_after Writing.write_rule Writing.in_turn Writing.write_i Writing.leaf Writing.unary Writing.binary Rules.rule Rules.guard Rules.index Rules.last Formulas.divide_v Formulas.divide_d Formulas.inside Formulas.clamped Formulas.refuted Formulas.behind Formulas.settled Formulas.connect_p Formulas.connect_n Formulas.quantify_p Formulas.quantify_n Meaning.array_at Meaning.no_array
translate_last ρ leaves node =
    let before : Translated = translate_rows ρ arrays-declared leaves in
    let after : Translated = Writing.step ρ arrays-declared before node in
    pieces (drop (length before.rows) after.rows) (get_or after.firsts (length leaves) 0) (get_or after.seconds (length leaves) 0)

abbrev every : List Reading
every = strict ∷ kleene ∷ relational ∷ []

abbrev loose : List Reading
loose = kleene ∷ relational ∷ []

abbrev three_valued : List Reading
three_valued = strict ∷ kleene ∷ []

abbrev number : List Row
number = constant_row (pos 1) ∷ []

abbrev numbers : List Row
numbers = constant_row (pos 1) ∷ variable_row 0 ∷ []

abbrev truth-value : List Row
truth-value = variable_b_row 0 ∷ []

abbrev truth-values : List Row
truth-values = truth_row true ∷ variable_b_row 0 ∷ []

-- leaves, then document 01's list from "Arithmetic" to "Strict"
rules : List Rule
rules =
    rule every [] (constant_row (pos 7)) (constant_row (pos 7) ∷ truth_row true ∷ []) 0 1
    ∷ rule every [] (variable_row 3) (variable_row 3 ∷ truth_row true ∷ []) 0 1
    ∷ rule every [] (slot_row 3) (slot_row 3 ∷ truth_row true ∷ []) 0 1
    ∷ rule every [] (truth_row false) (truth_row false ∷ negation_row 0 ∷ []) 0 1
    ∷ rule every [] (variable_b_row 3) (variable_b_row 3 ∷ negation_row 0 ∷ []) 0 1
    ∷ rule every numbers (arith_row minus 0 1) (arith_row minus 0 2 ∷ connect_row conj 1 3 ∷ []) 4 5
    ∷ rule every number (negate_row 0) (negate_row 0 ∷ []) 2 1
    ∷ rule every numbers (divide_row quot 0 1)
    (constant_row (pos 0) ∷ compare_row equal 2 4 ∷ bool_to_int_row 5 ∷ arith_row plus 2 6 ∷ divide_row quot 0 7 ∷ connect_row conj 1 3
    ∷ constant_row (pos 0) ∷ compare_row unequal 2 10 ∷ connect_row conj 9 11 ∷ [])
    8 12
    ∷ rule every numbers (divide_row rem 1 0)
    (constant_row (pos 0) ∷ compare_row equal 0 4 ∷ bool_to_int_row 5 ∷ arith_row plus 0 6 ∷ divide_row rem 2 7 ∷ connect_row conj 3 1
    ∷ constant_row (pos 0) ∷ compare_row unequal 0 10 ∷ connect_row conj 9 11 ∷ [])
    8 12
    ∷ rule every number (lookup_row 0 0)
    (constant_row (pos 5) ∷ constant_row (pos 7) ∷ arith_row minimum 3 0 ∷ arith_row maximum 2 4 ∷ lookup_row 0 5 ∷ constant_row (pos 5)
    ∷ compare_row at_most 7 0 ∷ connect_row conj 1 8 ∷ constant_row (pos 7) ∷ compare_row at_most 0 10 ∷ connect_row conj 9 11 ∷ [])
    6 12
    ∷ rule three_valued number (lookup_b_row 1 0)
    (constant_row (pos 5) ∷ compare_row at_most 2 0 ∷ connect_row conj 1 3 ∷ constant_row (pos 7) ∷ compare_row at_most 0 5
    ∷ connect_row conj 4 6 ∷ constant_row (pos 5) ∷ constant_row (pos 7) ∷ arith_row minimum 9 0 ∷ arith_row maximum 8 10 ∷ lookup_b_row 1 11
    ∷ connect_row conj 7 12 ∷ constant_row (pos 5) ∷ compare_row at_most 14 0 ∷ connect_row conj 1 15 ∷ constant_row (pos 7)
    ∷ compare_row at_most 0 17 ∷ connect_row conj 16 18 ∷ constant_row (pos 5) ∷ constant_row (pos 7) ∷ arith_row minimum 21 0
    ∷ arith_row maximum 20 22 ∷ lookup_b_row 1 23 ∷ negation_row 24 ∷ connect_row conj 19 25 ∷ [])
    13 26
    ∷ rule (relational ∷ []) number (lookup_b_row 1 0)
    (constant_row (pos 5) ∷ compare_row at_most 2 0 ∷ connect_row conj 1 3 ∷ constant_row (pos 7) ∷ compare_row at_most 0 5
    ∷ connect_row conj 4 6 ∷ constant_row (pos 5) ∷ constant_row (pos 7) ∷ arith_row minimum 9 0 ∷ arith_row maximum 8 10 ∷ lookup_b_row 1 11
    ∷ connect_row conj 7 12 ∷ negation_row 13 ∷ [])
    13 14
    ∷ rule every truth-value (bool_to_int_row 0) (bool_to_int_row 0 ∷ connect_row disj 0 1 ∷ []) 2 3
    ∷ rule every number (sum_row 2 0) (sum_row 2 0 ∷ quantify_row forall 2 1 ∷ []) 2 3
    ∷ rule three_valued numbers (compare_row below 0 1)
    (connect_row conj 1 3 ∷ compare_row below 0 2 ∷ connect_row conj 4 5 ∷ connect_row conj 1 3 ∷ compare_row below 0 2 ∷ negation_row 8
    ∷ connect_row conj 7 9 ∷ [])
    6 10
    ∷ rule (relational ∷ []) numbers (compare_row below 0 1)
    (connect_row conj 1 3 ∷ compare_row below 0 2 ∷ connect_row conj 4 5 ∷ negation_row 6 ∷ [])
    6 7
    ∷ rule every truth-value (negation_row 0) [] 1 0
    ∷ rule every truth-values (connect_row iff 0 1)
    (connect_row conj 0 2 ∷ connect_row conj 1 3 ∷ connect_row disj 4 5 ∷ connect_row conj 0 3 ∷ connect_row conj 1 2
    ∷ connect_row disj 7 8 ∷ [])
    6 9
    ∷ rule loose truth-values (connect_row conj 0 1) (connect_row conj 0 2 ∷ connect_row disj 1 3 ∷ []) 4 5
    ∷ rule loose truth-values (connect_row disj 0 1) (connect_row disj 0 2 ∷ connect_row conj 1 3 ∷ []) 4 5
    ∷ rule loose truth-values (connect_row implies 0 1) (connect_row disj 1 2 ∷ connect_row conj 0 3 ∷ []) 4 5
    ∷ rule loose truth-value (quantify_row exists 2 0) (quantify_row exists 2 0 ∷ quantify_row forall 2 1 ∷ []) 2 3
    ∷ rule loose truth-value (quantify_row forall 2 0) (quantify_row forall 2 0 ∷ quantify_row exists 2 1 ∷ []) 2 3
    ∷ rule (strict ∷ []) truth-values (connect_row conj 0 1)
    (connect_row conj 0 2 ∷ connect_row disj 0 1 ∷ connect_row disj 2 3 ∷ connect_row conj 5 6 ∷ connect_row disj 1 3
    ∷ connect_row conj 7 8 ∷ [])
    4 9
    ∷ rule (strict ∷ []) truth-values (connect_row disj 0 1)
    (connect_row disj 0 1 ∷ connect_row disj 2 3 ∷ connect_row conj 4 5 ∷ connect_row disj 0 2 ∷ connect_row conj 6 7
    ∷ connect_row conj 1 3 ∷ [])
    8 9
    ∷ rule (strict ∷ []) truth-values (connect_row implies 0 1)
    (connect_row disj 0 1 ∷ connect_row disj 2 3 ∷ connect_row conj 4 5 ∷ connect_row disj 1 2 ∷ connect_row conj 6 7
    ∷ connect_row conj 0 3 ∷ [])
    8 9
    ∷ rule (strict ∷ []) truth-value (quantify_row exists 2 0)
    (connect_row disj 0 1 ∷ quantify_row forall 2 2 ∷ quantify_row exists 2 0 ∷ connect_row conj 3 4 ∷ quantify_row forall 2 1 ∷ [])
    5 6
    ∷ rule (strict ∷ []) truth-value (quantify_row forall 2 0)
    (quantify_row forall 2 0 ∷ connect_row disj 0 1 ∷ quantify_row forall 2 3 ∷ quantify_row exists 2 1 ∷ connect_row conj 4 5 ∷ [])
    2 6
    ∷ []

rules-hold :
    map (λ r. map (λ ρ. translate_last ρ r.leaves r.node) r.readings) rules
    ≡ map (λ r. map (λ ρ. pieces r.written r.first r.second) r.readings) rules
unfolding rules translate_last
rules-hold = refl

-- ---- bounds

-- variables −3..5, 2..4, −6..−2, 0..0; slots 1..3, 7..6 (empty), −2..−2; an array of 4, a variable of −6..−2, and 1
abbrev bounds-declared : Declarations
bounds-declared =
    record {
      variables =
          record { sort = integer; low = negsuc 2; high = pos 5 }
          ∷ record { sort = integer; low = pos 2; high = pos 4 }
          ∷ record { sort = integer; low = negsuc 5; high = negsuc 1 }
          ∷ record { sort = integer; low = pos 0; high = pos 0 }
          ∷ [];
      slots = record { low = pos 1; high = pos 3 } ∷ record { low = pos 7; high = pos 6 } ∷ record { low = negsuc 1; high = negsuc 1 } ∷ [];
      arrays = record { sort = integer; first = pos 0; elements = fixed (pos 4) ∷ of_variable 2 ∷ fixed (pos 1) ∷ [] } ∷ [];
    }

interval_of : IExp ⊥ → Interval
unfolding interval Bounds.magnitude Bounds.hull Bounds.only Bounds.products Bounds.arith_interval Bounds.around Bounds.divide_interval Bounds.slot_interval Bounds.no_variable Bounds.variable_at Bounds.variable_interval Bounds.element_interval Bounds.hull_with Bounds.elements_interval Whole.least Whole.greatest Meaning.slot_at Meaning.array_at Meaning.count Meaning.no_slot Meaning.no_array
interval_of e = interval bounds-declared e

record Bound : Type 0 where
  expression : IExp ⊥
  bounds : Interval

abbrev bound : IExp ⊥ → ℤ → ℤ → Bound
bound e low high = record { expression = e; bounds = low to high }

abbrev a : IExp ⊥
a = variable 0

abbrev b : IExp ⊥
b = variable 1

abbrev c : IExp ⊥
c = variable 2

abbrev z : IExp ⊥
z = variable 3

abbrev minus_one : IExp ⊥
minus_one = constant (negsuc 0)

bounds : List Bound
bounds =
    bound (constant (negsuc 8)) (negsuc 8) (negsuc 8)
    ∷ bound a (negsuc 2) (pos 5)
    ∷ bound (slot 0) (pos 1) (pos 3)
    ∷ bound (slot 1) (pos 7) (pos 7)
    ∷ bound (slot 2) (negsuc 1) (negsuc 1)
    ∷ bound (arith plus a b) (negsuc 0) (pos 9)
    ∷ bound (arith minus a b) (negsuc 6) (pos 3)
    ∷ bound (arith times a b) (negsuc 11) (pos 20)
    ∷ bound (arith times a c) (negsuc 29) (pos 18)
    ∷ bound (arith times c c) (pos 4) (pos 36)
    ∷ bound (arith minimum a b) (negsuc 2) (pos 4)
    ∷ bound (arith maximum a b) (pos 2) (pos 5)
    ∷ bound (divide quot c b) (negsuc 5) (pos 6)
    ∷ bound (divide quot b c) (negsuc 3) (pos 4)
    ∷ bound (divide rem a c) (negsuc 4) (pos 5)
    ∷ bound (divide rem a b) (negsuc 2) (pos 3)
    ∷ bound (divide rem b c) (negsuc 4) (pos 5)
    ∷ bound (divide rem a minus_one) (pos 0) (pos 0)
    ∷ bound (divide rem a z) (pos 0) (pos 0)
    ∷ bound (negate a) (negsuc 4) (pos 3)
    ∷ bound (bool_to_int (truth true)) (pos 0) (pos 1)
    ∷ bound (lookup 0 a) (negsuc 5) (pos 4)
    ∷ bound (sum 0 a) (negsuc 8) (pos 15)
    ∷ bound (sum 1 a) (pos 0) (pos 0)
    ∷ []

bounds-hold : map (λ r. interval_of r.expression) bounds ≡ map (λ r. r.bounds) bounds
unfolding bounds interval_of
bounds-hold = refl
