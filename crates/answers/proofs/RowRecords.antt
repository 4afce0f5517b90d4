-- The record of a row: the kind, x and y with which a row is written, and that they are read back as the row and fit where it fits.
use mathlib.Core.Path.{◌≡◌, refl}
use Prim.Native.Nat.{ℕ}
use mathlib.Core.Bool.{true, false}
use mathlib.Core.List.{List}
use mathlib.Core.Option.{some}
use lib.IntN.{ℤ, pos, nat_abs}
use Rattle.numbers.specs.Whole.{eq_z}
use Rattle.language.specs.Syntax.{boolean, integer, Arithmetic, plus, minus, times, minimum, maximum, Division, quot, rem, Connective, conj, disj, implies, iff, Comparison, equal, unequal, at_most, below, Quantifier, exists, forall, Declarations}
use Rattle.language.specs.Tables.{Row, constant_row, variable_row, slot_row, arith_row, divide_row, negate_row, bool_to_int_row, lookup_row, sum_row, truth_row, variable_b_row, lookup_b_row, connect_row, negation_row, compare_row, quantify_row}
use Rattle.language.specs.Meaning.{is_one, number}
use Rattle.rules.specs.Soundness.{RowFits}
use Rattle.table.specs.Records.{ND, record_bytes}
use Rattle.table.specs.Kinds.{slot_number, node_number, Kind, kind, two, kinds, kind_of, row_in, arithmetic_kind, division_kind, connective_kind, comparison_kind, quantifier_kind, node_bytes}
use Rattle.answers.specs.Check.{is_bit}
use Rattle.table.proofs.ReadBack.{RecordIs}
use Rattle.answers.specs.Sections.{declarations, row_of}
use Rattle.answers.proofs.KindsFit.{FieldFits}
use Rattle.answers.proofs.Fields.{rows_below}
use Rattle.answers.proofs.NodesFit.{NodePassed}

-- ---- what is written

-- a row's kind, x and y
abbrev pub number_of : Row → ℕ
number_of (constant_row z) = 1
number_of (truth_row b) = 2
number_of (variable_row v) = 3
number_of (variable_b_row v) = 4
number_of (slot_row s) = 5
number_of (arith_row op a b) = arithmetic_kind op
number_of (divide_row op a b) = division_kind op
number_of (negate_row a) = 11
number_of (bool_to_int_row a) = 14
number_of (lookup_row A i) = 15
number_of (lookup_b_row A i) = 16
number_of (sum_row s a) = 17
number_of (connect_row c a b) = connective_kind c
number_of (negation_row a) = 24
number_of (compare_row c a b) = comparison_kind c
number_of (quantify_row q s a) = quantifier_kind q

abbrev pub x_of : Row → ℤ
x_of (constant_row z) = z
x_of (truth_row b) = number b
x_of (variable_row v) = pos v
x_of (variable_b_row v) = pos v
x_of (slot_row s) = pos s
x_of (arith_row op a b) = pos a
x_of (divide_row op a b) = pos a
x_of (negate_row a) = pos a
x_of (bool_to_int_row a) = pos a
x_of (lookup_row A i) = pos A
x_of (lookup_b_row A i) = pos A
x_of (sum_row s a) = pos s
x_of (connect_row c a b) = pos a
x_of (negation_row a) = pos a
x_of (compare_row c a b) = pos a
x_of (quantify_row q s a) = pos s

abbrev pub y_of : Row → ℤ
y_of (constant_row z) = pos 0
y_of (truth_row b) = pos 0
y_of (variable_row v) = pos 0
y_of (variable_b_row v) = pos 0
y_of (slot_row s) = pos 0
y_of (arith_row op a b) = pos b
y_of (divide_row op a b) = pos b
y_of (negate_row a) = pos 0
y_of (bool_to_int_row a) = pos 0
y_of (lookup_row A i) = pos i
y_of (lookup_b_row A i) = pos i
y_of (sum_row s a) = pos a
y_of (connect_row c a b) = pos b
y_of (negation_row a) = pos 0
y_of (compare_row c a b) = pos b
y_of (quantify_row q s a) = pos a

-- A row's bytes are the record of its kind, x and y.
pub node_bytes-is : (r : Row) → node_bytes r ≡ record_bytes ND (number_of r) (x_of r) (y_of r)
unfolding node_bytes
node_bytes-is (constant_row z) = refl
node_bytes-is (truth_row b) = refl
node_bytes-is (variable_row v) = refl
node_bytes-is (variable_b_row v) = refl
node_bytes-is (slot_row s) = refl
node_bytes-is (arith_row op a b) = refl
node_bytes-is (divide_row op a b) = refl
node_bytes-is (negate_row a) = refl
node_bytes-is (bool_to_int_row a) = refl
node_bytes-is (lookup_row A i) = refl
node_bytes-is (lookup_b_row A i) = refl
node_bytes-is (sum_row s a) = refl
node_bytes-is (connect_row c a b) = refl
node_bytes-is (negation_row a) = refl
node_bytes-is (compare_row c a b) = refl
node_bytes-is (quantify_row q s a) = refl

-- ---- the kinds of the operators: each kind's entry in the table

-- arithmetic,
kind_of-arithmetic : (op : Arithmetic) → kind_of (arithmetic_kind op) ≡ two integer integer (arith_row op)
unfolding kind_of kinds arithmetic_kind
kind_of-arithmetic plus = refl
kind_of-arithmetic minus = refl
kind_of-arithmetic times = refl
kind_of-arithmetic minimum = refl
kind_of-arithmetic maximum = refl

-- div and mod,
kind_of-division : (op : Division) → kind_of (division_kind op) ≡ two integer integer (divide_row op)
unfolding kind_of kinds division_kind
kind_of-division quot = refl
kind_of-division rem = refl

-- connectives,
kind_of-connective : (c : Connective) → kind_of (connective_kind c) ≡ two boolean boolean (connect_row c)
unfolding kind_of kinds connective_kind
kind_of-connective conj = refl
kind_of-connective disj = refl
kind_of-connective implies = refl
kind_of-connective iff = refl

-- comparisons,
kind_of-comparison : (c : Comparison) → kind_of (comparison_kind c) ≡ two integer boolean (compare_row c)
unfolding kind_of kinds comparison_kind
kind_of-comparison equal = refl
kind_of-comparison unequal = refl
kind_of-comparison at_most = refl
kind_of-comparison below = refl

-- quantifiers.
kind_of-quantifier : (q : Quantifier) → kind_of (quantifier_kind q) ≡ kind slot_number (node_number boolean) boolean (λ x y. quantify_row q (nat_abs x) (nat_abs y))
unfolding kind_of kinds quantifier_kind
kind_of-quantifier exists = refl
kind_of-quantifier forall = refl

-- ---- reading it back

-- A row is written with a kind that exists, is read back, and its fields fit where it fits.
pub record RowKind (r : Row) : Type 0 where
  pub kind : Kind
  pub kind_is : kind_of (number_of r) ≡ some kind
  pub row_is : kind.row (x_of r) (y_of r) ≡ r
  pub x_fits : (Γ : Declarations) (before : List Row) → RowFits Γ before r → FieldFits Γ before kind.field_x (x_of r)
  pub y_fits : (Γ : Declarations) (before : List Row) → RowFits Γ before r → FieldFits Γ before kind.field_y (y_of r)

-- So is every row.
pub row_kind : (r : Row) → RowKind r
unfolding kind_of kinds number is_one eq_z is_bit
row_kind (constant_row z) = record { kind = _; kind_is = refl; row_is = refl; x_fits = λ Γ b h. tt; y_fits = λ Γ b h. refl }
row_kind (truth_row true) = record { kind = _; kind_is = refl; row_is = refl; x_fits = λ Γ b h. tt; y_fits = λ Γ b h. refl }
row_kind (truth_row false) = record { kind = _; kind_is = refl; row_is = refl; x_fits = λ Γ b h. tt; y_fits = λ Γ b h. refl }
row_kind (variable_row v) = record { kind = _; kind_is = refl; row_is = refl; x_fits = λ Γ b h. (tt, h); y_fits = λ Γ b h. refl }
row_kind (variable_b_row v) = record { kind = _; kind_is = refl; row_is = refl; x_fits = λ Γ b h. (tt, h); y_fits = λ Γ b h. refl }
row_kind (slot_row s) = record { kind = _; kind_is = refl; row_is = refl; x_fits = λ Γ b h. (tt, h); y_fits = λ Γ b h. refl }
row_kind (arith_row op k l) = record { kind = _; kind_is = kind_of-arithmetic op; row_is = refl; x_fits = λ Γ b h. (tt, h.0); y_fits = λ Γ b h. (tt, h.1) }
row_kind (divide_row op k l) = record { kind = _; kind_is = kind_of-division op; row_is = refl; x_fits = λ Γ b h. (tt, h.0); y_fits = λ Γ b h. (tt, h.1) }
row_kind (negate_row a) = record { kind = _; kind_is = refl; row_is = refl; x_fits = λ Γ b h. (tt, h); y_fits = λ Γ b h. refl }
row_kind (bool_to_int_row a) = record { kind = _; kind_is = refl; row_is = refl; x_fits = λ Γ b h. (tt, h); y_fits = λ Γ b h. refl }
row_kind (lookup_row A i) = record { kind = _; kind_is = refl; row_is = refl; x_fits = λ Γ b h. (tt, h.0); y_fits = λ Γ b h. (tt, h.1) }
row_kind (lookup_b_row A i) = record { kind = _; kind_is = refl; row_is = refl; x_fits = λ Γ b h. (tt, h.0); y_fits = λ Γ b h. (tt, h.1) }
row_kind (sum_row s a) = record { kind = _; kind_is = refl; row_is = refl; x_fits = λ Γ b h. (tt, h.0); y_fits = λ Γ b h. (tt, h.1) }
row_kind (connect_row c k l) = record { kind = _; kind_is = kind_of-connective c; row_is = refl; x_fits = λ Γ b h. (tt, h.0); y_fits = λ Γ b h. (tt, h.1) }
row_kind (negation_row a) = record { kind = _; kind_is = refl; row_is = refl; x_fits = λ Γ b h. (tt, h); y_fits = λ Γ b h. refl }
row_kind (compare_row c k l) = record { kind = _; kind_is = kind_of-comparison c; row_is = refl; x_fits = λ Γ b h. (tt, h.0); y_fits = λ Γ b h. (tt, h.1) }
row_kind (quantify_row q s a) = record { kind = _; kind_is = kind_of-quantifier q; row_is = refl; x_fits = λ Γ b h. (tt, h.0); y_fits = λ Γ b h. (tt, h.1) }

module _ (bs : List ℕ) (p : ℕ) (r : Row) (is : RecordIs bs p ND (number_of r) (x_of r) (y_of r)) where
  -- The record of a row is read as the row,
  pub row_of-RecordIs : row_of bs p ≡ r
  unfolding row_of row_in
  row_of-RecordIs = rw (is.kind_is, (row_kind r).kind_is, is.x_is, is.y_is, row_of, row_in) (row_kind r).row_is

  -- and has no fault where the row fits behind those before it.
  pub RowFits→NodePassed : (n : ℕ) → RowFits (declarations bs) (rows_below bs n) r → NodePassed bs n p
  RowFits→NodePassed n h =
      let k = row_kind r in
      record {
        kind = k.kind;
        kind_is = rw is.kind_is k.kind_is;
        aux_is = is.aux_is;
        x_fits = rw is.x_is (k.x_fits (declarations bs) (rows_below bs n) h);
        y_fits = rw is.y_is (k.y_fits (declarations bs) (rows_below bs n) h);
      }
