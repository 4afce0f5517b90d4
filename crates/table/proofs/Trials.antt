-- Trials of the record and of the table of kinds, each one computed claim about a table of rows.
use mathlib.Core.Path.{◌≡◌, refl}
use Prim.Native.Nat.{ℕ}
use mathlib.Core.Bool.{true, false}
use mathlib.Core.List.{List, [], ◌∷◌, ◌++◌, map}
use mathlib.Core.Option
use mathlib.Core.Option.{none, some}
use lib.IntN.{ℤ, pos, negsuc}
use Rattle.numbers.specs.Whole.{eq_z}
use Rattle.language.specs.Syntax.{Sort, boolean, integer, plus, minus, times, minimum, maximum, quot, rem, conj, disj, implies, iff, equal, unequal, at_most, below, exists, forall}
use Rattle.language.specs.Tables.{Row, constant_row, variable_row, slot_row, arith_row, divide_row, negate_row, bool_to_int_row, lookup_row, sum_row, truth_row, variable_b_row, lookup_b_row, connect_row, negation_row, compare_row, quantify_row}
use Rattle.language.specs.Meaning.{is_one, number}
use Rattle.table.specs.Records as Records
use Rattle.table.specs.Records.{Mark, HD, VR, SL, AR, EL, ND, CN, marked, kind_at, aux_at, x_at, y_at, record_bytes}
use Rattle.table.specs.Kinds as Kinds
use Rattle.table.specs.Kinds.{Field, unused, any_number, truth_value, variable_number, slot_number, array_number, node_number, kind_of, row_in, node_bytes}

-- ---- records on disk

record Record : Type 0 where
  mark : Mark
  kind : ℕ
  aux : ℕ
  x : ℤ
  y : ℤ
  bytes : List ℕ

abbrev record_of : Mark → ℕ → ℕ → ℤ → ℤ → List ℕ → Record
record_of m k a x y bs = record { mark = m; kind = k; aux = a; x = x; y = y; bytes = bs }

-- every mark, and numbers at the ends of 32 bits
records : List Record
records =
    record_of HD 1 0 (pos 20) (pos 0) (72 ∷ 68 ∷ 1 ∷ 0 ∷ 20 ∷ 0 ∷ 0 ∷ 0 ∷ 0 ∷ 0 ∷ 0 ∷ 0 ∷ [])
    ∷ record_of VR 1 0 (negsuc 2_147_483_647) (pos 2_147_483_647) (86 ∷ 82 ∷ 1 ∷ 0 ∷ 0 ∷ 0 ∷ 0 ∷ 128 ∷ 255 ∷ 255 ∷ 255 ∷ 127 ∷ [])
    ∷ record_of SL 0 0 (pos 1) (negsuc 0) (83 ∷ 76 ∷ 0 ∷ 0 ∷ 1 ∷ 0 ∷ 0 ∷ 0 ∷ 255 ∷ 255 ∷ 255 ∷ 255 ∷ [])
    ∷ record_of AR 1 0 (negsuc 255) (pos 258) (65 ∷ 82 ∷ 1 ∷ 0 ∷ 0 ∷ 255 ∷ 255 ∷ 255 ∷ 2 ∷ 1 ∷ 0 ∷ 0 ∷ [])
    ∷ record_of EL 1 0 (pos 16_909_060) (pos 0) (69 ∷ 76 ∷ 1 ∷ 0 ∷ 4 ∷ 3 ∷ 2 ∷ 1 ∷ 0 ∷ 0 ∷ 0 ∷ 0 ∷ [])
    ∷ record_of ND 30 0 (pos 2_000_000_000) (negsuc 1_999_999_999) (78 ∷ 68 ∷ 30 ∷ 0 ∷ 0 ∷ 148 ∷ 53 ∷ 119 ∷ 0 ∷ 108 ∷ 202 ∷ 136 ∷ [])
    ∷ record_of CN 0 0 (pos 65_536) (pos 0) (67 ∷ 78 ∷ 0 ∷ 0 ∷ 0 ∷ 0 ∷ 1 ∷ 0 ∷ 0 ∷ 0 ∷ 0 ∷ 0 ∷ [])
    ∷ []

-- another record in front, so that the place of each part counts
read : Record → Record
unfolding Records.byte_at Records.word_at Records.signed Records.record_size kind_at aux_at x_at y_at
read r = let bs : List ℕ = (1 ∷ 2 ∷ 3 ∷ 4 ∷ 5 ∷ 6 ∷ 7 ∷ 8 ∷ 9 ∷ 10 ∷ 11 ∷ 12 ∷ []) ++ r.bytes in
    record_of r.mark (kind_at bs 1) (aux_at bs 1) (x_at bs 1) (y_at bs 1) r.bytes

records-read : map read records ≡ records
unfolding records read
records-read = refl

records-written : map (λ r. record_bytes r.mark r.kind r.x r.y) records ≡ map (λ r. r.bytes) records
unfolding records record_bytes Records.first_letter Records.second_letter Records.word_bytes Records.bits_of
records-written = refl

-- the marks are told apart
marks-told : map (λ r. map (λ m. marked r.bytes m 0) (HD ∷ VR ∷ SL ∷ AR ∷ EL ∷ ND ∷ CN ∷ [])) records ≡
    (true ∷ false ∷ false ∷ false ∷ false ∷ false ∷ false ∷ [])
    ∷ (false ∷ true ∷ false ∷ false ∷ false ∷ false ∷ false ∷ [])
    ∷ (false ∷ false ∷ true ∷ false ∷ false ∷ false ∷ false ∷ [])
    ∷ (false ∷ false ∷ false ∷ true ∷ false ∷ false ∷ false ∷ [])
    ∷ (false ∷ false ∷ false ∷ false ∷ true ∷ false ∷ false ∷ [])
    ∷ (false ∷ false ∷ false ∷ false ∷ false ∷ true ∷ false ∷ [])
    ∷ (false ∷ false ∷ false ∷ false ∷ false ∷ false ∷ true ∷ [])
    ∷ []
unfolding records marked Records.byte_at Records.record_size Records.first_letter Records.second_letter
marks-told = refl

-- ---- kinds: document 01's sentence, kind by kind

record Taken : Type 0 where
  kind : ℕ
  field_x : Field
  field_y : Field
  yields : Sort

abbrev takes : ℕ → Field → Field → Sort → Taken
takes k x y t = record { kind = k; field_x = x; field_y = y; yields = t }

abbrev i : Field
i = node_number integer

abbrev b : Field
b = node_number boolean

-- "Integer: 1 constant x; 3 variable x; 5 slot x; 6 add, 7 subtract, 8 multiply, 9 div, 10 mod, 12 min, 13 max of nodes x, y; 11 negate x;
-- 14 boolToInt x; 15 array x at index node y; 17 sum over slot x of body y."
taken : List Taken
taken =
    takes 1 any_number unused integer
    ∷ takes 3 (variable_number integer) unused integer
    ∷ takes 5 slot_number unused integer
    ∷ takes 6 i i integer
    ∷ takes 7 i i integer
    ∷ takes 8 i i integer
    ∷ takes 9 i i integer
    ∷ takes 10 i i integer
    ∷ takes 12 i i integer
    ∷ takes 13 i i integer
    ∷ takes 11 i unused integer
    ∷ takes 14 b unused integer
    ∷ takes 15 (array_number integer) i integer
    ∷ takes 17 slot_number i integer
    -- "Boolean: 2 constant x (0, 1); 4 variable x; 16 array x at index node y; 20 and, 21 or, 22 implies, 23 iff of x, y; 24 not x; 25 =, 26 ≠,
    -- 27 ≤, 28 < of x, y; 29 exists, 30 forall over slot x of body y."
    ∷ takes 2 truth_value unused boolean
    ∷ takes 4 (variable_number boolean) unused boolean
    ∷ takes 16 (array_number boolean) i boolean
    ∷ takes 20 b b boolean
    ∷ takes 21 b b boolean
    ∷ takes 22 b b boolean
    ∷ takes 23 b b boolean
    ∷ takes 24 b unused boolean
    ∷ takes 25 i i boolean
    ∷ takes 26 i i boolean
    ∷ takes 27 i i boolean
    ∷ takes 28 i i boolean
    ∷ takes 29 slot_number b boolean
    ∷ takes 30 slot_number b boolean
    ∷ []

kinds-taken : map (λ r. Option.map (λ k. takes r.kind k.field_x k.field_y k.yields) (kind_of r.kind)) taken ≡ map some taken
unfolding taken kind_of Kinds.kinds
kinds-taken = refl

-- "Others don't exist."
others : map (λ k. Option.map (λ r. r.yields) (kind_of k)) (0 ∷ 18 ∷ 19 ∷ 31 ∷ 32 ∷ 255 ∷ []) ≡ none ∷ none ∷ none ∷ none ∷ none ∷ none ∷ []
unfolding kind_of Kinds.kinds
others = refl

-- ---- rows: what each kind does with its fields

record Does : Type 0 where
  kind : ℕ
  row : Row

abbrev does : ℕ → Row → Does
does k r = record { kind = k; row = r }

-- with 8 for x and 9 for y
done : List Does
done =
    does 1 (constant_row (pos 8))
    ∷ does 3 (variable_row 8)
    ∷ does 4 (variable_b_row 8)
    ∷ does 5 (slot_row 8)
    ∷ does 6 (arith_row plus 8 9)
    ∷ does 7 (arith_row minus 8 9)
    ∷ does 8 (arith_row times 8 9)
    ∷ does 9 (divide_row quot 8 9)
    ∷ does 10 (divide_row rem 8 9)
    ∷ does 11 (negate_row 8)
    ∷ does 12 (arith_row minimum 8 9)
    ∷ does 13 (arith_row maximum 8 9)
    ∷ does 14 (bool_to_int_row 8)
    ∷ does 15 (lookup_row 8 9)
    ∷ does 16 (lookup_b_row 8 9)
    ∷ does 17 (sum_row 8 9)
    ∷ does 20 (connect_row conj 8 9)
    ∷ does 21 (connect_row disj 8 9)
    ∷ does 22 (connect_row implies 8 9)
    ∷ does 23 (connect_row iff 8 9)
    ∷ does 24 (negation_row 8)
    ∷ does 25 (compare_row equal 8 9)
    ∷ does 26 (compare_row unequal 8 9)
    ∷ does 27 (compare_row at_most 8 9)
    ∷ does 28 (compare_row below 8 9)
    ∷ does 29 (quantify_row exists 8 9)
    ∷ does 30 (quantify_row forall 8 9)
    ∷ []

rows-done : map (λ r. row_in (kind_of r.kind) (pos 8) (pos 9)) done ≡ map (λ r. r.row) done
unfolding done row_in kind_of Kinds.kinds
rows-done = refl

-- a negative constant; the truth constants 0 and 1; a kind that does not exist
other-rows :
    map (λ x. row_in (kind_of 1) x (pos 0)) (negsuc 7 ∷ pos 0 ∷ []) ++ (map (λ x. row_in (kind_of 2) x (pos 0)) (pos 0 ∷ pos 1 ∷ []) ++ map (λ k. row_in (kind_of k) (pos 1) (pos 1)) (0 ∷ 18 ∷ 31 ∷ []))
    ≡ constant_row (negsuc 7) ∷ constant_row (pos 0) ∷ truth_row false ∷ truth_row true ∷ truth_row false ∷ truth_row false ∷ truth_row false ∷ []
unfolding row_in kind_of Kinds.kinds is_one eq_z
other-rows = refl

-- a record's row, written as a record again, is that record
abbrev second_field : Field → ℤ
second_field unused = pos 0
second_field any_number = pos 0
second_field truth_value = pos 0
second_field (variable_number t) = pos 0
second_field slot_number = pos 0
second_field (array_number t) = pos 0
second_field (node_number t) = pos 259

rows_written :
    map (λ r. Option.map (λ k. node_bytes (k.row (pos 1) (second_field k.field_y))) (kind_of r.kind)) taken
    ≡ map (λ r. some (record_bytes ND r.kind (pos 1) (second_field r.field_y))) taken
unfolding taken kind_of Kinds.kinds node_bytes Kinds.arithmetic_kind Kinds.division_kind Kinds.connective_kind Kinds.comparison_kind Kinds.quantifier_kind is_one number eq_z
rows_written = refl
