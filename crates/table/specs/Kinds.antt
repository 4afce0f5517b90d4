-- "One small table of kinds says which operands each kind takes and what it yields."
use Rattle.std.specs.Prelude.{ℕ, false, List, [], ◌∷◌, ℤ, pos, nat_abs, get_or}
use Rattle.std.proofs.Math.Option.{Option, none, some}
use Rattle.language.specs.Syntax.{Sort, boolean, integer, Arithmetic, plus, minus, times, minimum, maximum, Division, quot, rem, Connective, conj, disj, implies, iff, Comparison, equal, unequal, at_most, below, Quantifier, exists, forall}
use Rattle.language.specs.Tables.{Row, constant_row, variable_row, slot_row, arith_row, divide_row, negate_row, bool_to_int_row, lookup_row, sum_row, truth_row, variable_b_row, lookup_b_row, connect_row, negation_row, compare_row, quantify_row}
use Rattle.language.specs.Meaning.{is_one, number}
use Rattle.table.specs.Records.{ND, record_bytes}

-- what a field of a node record holds
pub data Field : Type 0 where
  -- nothing: "Fields not named below are 0"
  unused : Field
  -- any number
  any_number : Field
  -- 0 or 1
  truth_value : Field
  -- the number of a variable, slot, array or earlier node, of that type where it has one
  variable_number : Sort → Field
  slot_number : Field
  array_number : Sort → Field
  node_number : Sort → Field

-- the operands of a kind, what it yields, and the row that a record of this kind is
pub record Kind : Type 0 where
  pub field_x : Field
  pub field_y : Field
  pub yields : Sort
  pub row : ℤ → ℤ → Row

abbrev pub kind : Field → Field → Sort → (ℤ → ℤ → Row) → Option Kind
kind x y t r = some (record { field_x = x; field_y = y; yields = t; row = r })

-- a node of two operands of one type
abbrev pub two : Sort → Sort → (ℕ → ℕ → Row) → Option Kind
two operands t r = kind (node_number operands) (node_number operands) t (λ x y. r (nat_abs x) (nat_abs y))

-- "Integer: 1 constant x; 3 variable x; 5 slot x; 6 add, .. Boolean: 2 constant x (0, 1); 4 variable x; .. Others don't exist."
unfoldable pub kinds : List (Option Kind)
kinds =
    none  -- 0
    ∷ kind any_number unused integer (λ x y. constant_row x)  -- 1
    ∷ kind truth_value unused boolean (λ x y. truth_row (is_one x))  -- 2
    ∷ kind (variable_number integer) unused integer (λ x y. variable_row (nat_abs x))  -- 3
    ∷ kind (variable_number boolean) unused boolean (λ x y. variable_b_row (nat_abs x))  -- 4
    ∷ kind slot_number unused integer (λ x y. slot_row (nat_abs x))  -- 5
    ∷ two integer integer (arith_row plus)  -- 6
    ∷ two integer integer (arith_row minus)  -- 7
    ∷ two integer integer (arith_row times)  -- 8
    ∷ two integer integer (divide_row quot)  -- 9
    ∷ two integer integer (divide_row rem)  -- 10
    ∷ kind (node_number integer) unused integer (λ x y. negate_row (nat_abs x))  -- 11
    ∷ two integer integer (arith_row minimum)  -- 12
    ∷ two integer integer (arith_row maximum)  -- 13
    ∷ kind (node_number boolean) unused integer (λ x y. bool_to_int_row (nat_abs x))  -- 14
    ∷ kind (array_number integer) (node_number integer) integer (λ x y. lookup_row (nat_abs x) (nat_abs y))  -- 15
    ∷ kind (array_number boolean) (node_number integer) boolean (λ x y. lookup_b_row (nat_abs x) (nat_abs y))  -- 16
    ∷ kind slot_number (node_number integer) integer (λ x y. sum_row (nat_abs x) (nat_abs y))  -- 17
    ∷ none  -- 18
    ∷ none  -- 19
    ∷ two boolean boolean (connect_row conj)  -- 20
    ∷ two boolean boolean (connect_row disj)  -- 21
    ∷ two boolean boolean (connect_row implies)  -- 22
    ∷ two boolean boolean (connect_row iff)  -- 23
    ∷ kind (node_number boolean) unused boolean (λ x y. negation_row (nat_abs x))  -- 24
    ∷ two integer boolean (compare_row equal)  -- 25
    ∷ two integer boolean (compare_row unequal)  -- 26
    ∷ two integer boolean (compare_row at_most)  -- 27
    ∷ two integer boolean (compare_row below)  -- 28
    ∷ kind slot_number (node_number boolean) boolean (λ x y. quantify_row exists (nat_abs x) (nat_abs y))  -- 29
    ∷ kind slot_number (node_number boolean) boolean (λ x y. quantify_row forall (nat_abs x) (nat_abs y))  -- 30
    ∷ []

unfoldable pub kind_of : ℕ → Option Kind
kind_of k = get_or kinds k none

-- the row of a record of that kind with those fields; a kind that does not exist reads as false
unfoldable pub row_in : Option Kind → ℤ → ℤ → Row
row_in none x y = truth_row false
row_in (some k) x y = k.row x y

-- ---- the record of a row

unfoldable pub arithmetic_kind : Arithmetic → ℕ
arithmetic_kind plus = 6
arithmetic_kind minus = 7
arithmetic_kind times = 8
arithmetic_kind minimum = 12
arithmetic_kind maximum = 13

unfoldable pub division_kind : Division → ℕ
division_kind quot = 9
division_kind rem = 10

unfoldable pub connective_kind : Connective → ℕ
connective_kind conj = 20
connective_kind disj = 21
connective_kind implies = 22
connective_kind iff = 23

unfoldable pub comparison_kind : Comparison → ℕ
comparison_kind equal = 25
comparison_kind unequal = 26
comparison_kind at_most = 27
comparison_kind below = 28

unfoldable pub quantifier_kind : Quantifier → ℕ
quantifier_kind exists = 29
quantifier_kind forall = 30

abbrev node1 : ℕ → ℕ → List ℕ
node1 k x = record_bytes ND k (pos x) (pos 0)

abbrev node2 : ℕ → ℕ → ℕ → List ℕ
node2 k x y = record_bytes ND k (pos x) (pos y)

unfoldable pub node_bytes : Row → List ℕ
node_bytes (constant_row z) = record_bytes ND 1 z (pos 0)
node_bytes (truth_row b) = record_bytes ND 2 (number b) (pos 0)
node_bytes (variable_row v) = node1 3 v
node_bytes (variable_b_row v) = node1 4 v
node_bytes (slot_row s) = node1 5 s
node_bytes (arith_row op a b) = node2 (arithmetic_kind op) a b
node_bytes (divide_row op a b) = node2 (division_kind op) a b
node_bytes (negate_row a) = node1 11 a
node_bytes (bool_to_int_row a) = node1 14 a
node_bytes (lookup_row A i) = node2 15 A i
node_bytes (lookup_b_row A i) = node2 16 A i
node_bytes (sum_row s a) = node2 17 s a
node_bytes (connect_row c a b) = node2 (connective_kind c) a b
node_bytes (negation_row a) = node1 24 a
node_bytes (compare_row c a b) = node2 (comparison_kind c) a b
node_bytes (quantify_row q s a) = node2 (quantifier_kind q) s a
