-- The check: for every byte string the number and the record of its refusal, or none.
use Rattle.std.specs.Prelude.{ℕ, zero, suc, ◌+◌, ◌%◌, Bool, true, false, cond, not, ◌&&◌, ◌||◌, List, [], ◌∷◌, eqb, leb, ltb, ℤ, pos, nat_abs, length, get_or}
use Rattle.std.proofs.Math.Option.{Option, none, some, map, or_else}
use Rattle.std.specs.Int.Signed.{le_z, non_neg}
use Rattle.numbers.specs.Limits.{most_bytes, most_variables, most_slots, most_slot_values, most_arrays, most_elements, reach}
use Rattle.numbers.specs.Whole.{eq_z, between}
use Rattle.language.specs.Syntax.{Sort, boolean, integer}
use Rattle.language.specs.Tables.{free_in, tree_at}
use Rattle.language.specs.Meaning.{count}
use Rattle.table.specs.Records.{HD, AR, EL, record_size, record_count, marked, kind_at, aux_at, x_at, y_at}
use Rattle.table.specs.Kinds.{Field, unused, any_number, truth_value, variable_number, slot_number, array_number, node_number, Kind, kind_of}
use Rattle.answers.specs.Sections.{sort_of_kind, variables_at, slots_at, arrays_at, nodes_at, constraints_at, rest_at, variable_count, slot_count, array_records, node_count, constraint_count, behind_array, slot_of, node_trees}

-- "Each refusal gives its number and a record number"
pub record Refusal : Type 0 where
  pub number : ℕ
  pub at : ℕ

abbrev pub refuse : ℕ → ℕ → Option Refusal
refuse n k = some (record { number = n; at = k })

-- number n where the test fails
unfoldable pub unless : ℕ → Bool → Option ℕ
unless n true = none
unless n false = some n

-- The first fault among k things from record p on, thing i at record p + i.
unfoldable pub first_fault : (ℕ → Option ℕ) → ℕ → ℕ → Option Refusal
first_fault own p zero = none
first_fault own p (suc k) = or_else (first_fault own p k) (map (λ n. record { number = n; at = p + k }) (own k))

-- the first refusal in an order
unfoldable pub first : List (Option Refusal) → Option Refusal
first [] = none
first (f ∷ fs) = or_else f (first fs)

-- ---- small tests

unfoldable pub same_sort : Sort → Sort → Bool
same_sort boolean boolean = true
same_sort boolean integer = false
same_sort integer boolean = false
same_sort integer integer = true

unfoldable pub is_zero : ℤ → Bool
is_zero z = eq_z z (pos 0)

unfoldable pub is_bit : ℤ → Bool
is_bit z = eq_z z (pos 0) || eq_z z (pos 1)

unfoldable pub near : ℤ → Bool
near z = leb (nat_abs z) reach

-- z is one of the numbers 0, 1, .., n − 1: "a negative number names nothing"
unfoldable pub names : ℕ → ℤ → Bool
names n z = non_neg z && ltb (nat_abs z) n

-- a VR's, an AR's or an EL's kind
unfoldable pub is_kind : ℕ → Bool
is_kind k = leb k 1

-- a VR's domain: "bool is 0..1; integer needs x ≤ y"
unfoldable pub domain_allowed : ℕ → ℤ → ℤ → Bool
domain_allowed k x y = cond (eqb k 0) (is_zero x && eq_z y (pos 1)) (le_z x y)

-- an EL's x in an array of a type: "constant x (0 or 1 in a bool array)"
unfoldable pub constant_allowed : Sort → ℕ → ℤ → Bool
constant_allowed boolean k x = not (eqb k 0) || is_bit x
constant_allowed integer k x = true

-- a number in a field of a node; one that is to name something may be any here
unfoldable pub field_allowed : Field → ℤ → Bool
field_allowed unused z = is_zero z
field_allowed any_number z = true
field_allowed truth_value z = is_bit z
field_allowed (variable_number t) z = true
field_allowed slot_number z = true
field_allowed (array_number t) z = true
field_allowed (node_number t) z = true

module _ (bs : List ℕ) where
  -- ---- what a number names

  unfoldable pub variable_sort : ℤ → Sort
  variable_sort z = sort_of_kind (kind_at bs (variables_at bs + nat_abs z))

  unfoldable pub array_sort : ℤ → Sort
  array_sort z = sort_of_kind (kind_at bs (get_or (array_records bs) (nat_abs z) 0))

  unfoldable pub node_sort : ℤ → Sort
  node_sort z = elim (kind_of (kind_at bs (nodes_at bs + nat_abs z))) [ none ↦ boolean | some k ↦ k.yields ]

  -- ---- one record of each section, by its number in the section and its record

  -- "HD: kind 1, x = number of records, this one included"
  unfoldable pub header_fault : ℕ → Option ℕ
  header_fault p =
      or_else (unless 2 (marked bs HD p))
      (unless 3 (eqb (kind_at bs p) 1 && eqb (aux_at bs p) 0 && eq_z (x_at bs p) (pos (record_count bs)) && is_zero (y_at bs p)))

  -- "VR: domain x..y; bool is 0..1; integer needs x ≤ y; at most 256"
  unfoldable pub variable_fault : ℕ → ℕ → Option ℕ
  variable_fault i p =
      unless 3 (ltb i most_variables && is_kind (kind_at bs p) && eqb (aux_at bs p) 0 && domain_allowed (kind_at bs p) (x_at bs p) (y_at bs p))

  -- "SL: quantified slot x..y, both ends within ±1,000,000,000, at most 10,000 values, empty if y < x; at most 16"
  unfoldable pub slot_fault : ℕ → ℕ → Option ℕ
  slot_fault i p =
      unless 3
      (ltb i most_slots && eqb (kind_at bs p) 0 && eqb (aux_at bs p) 0 && near (x_at bs p) && near (y_at bs p)
      && leb (count (slot_of bs p)) most_slot_values)

  -- "AR: first index x within ±1,000,000,000, y elements, 1 to 1,024; at most 64"
  unfoldable pub array_fault : ℕ → ℕ → Option ℕ
  array_fault j p =
      unless 3
      (ltb j most_arrays && is_kind (kind_at bs p) && eqb (aux_at bs p) 0 && near (x_at bs p)
      && between (pos 1) (pos most_elements) (y_at bs p))

  -- "EL: 0 constant x (0 or 1 in a bool array), 1 variable number x", in an array of type t
  unfoldable pub element_fault : Sort → ℕ → Option ℕ
  element_fault t p =
      or_else (unless 2 (marked bs EL p))
      (or_else (unless 3 (is_kind (kind_at bs p) && eqb (aux_at bs p) 0 && is_zero (y_at bs p) && constant_allowed t (kind_at bs p) (x_at bs p)))
      (or_else (unless 4 (eqb (kind_at bs p) 0 || names (variable_count bs) (x_at bs p)))
      (unless 5 (eqb (kind_at bs p) 0 || same_sort (variable_sort (x_at bs p)) t))))

  -- A field of a node names something, in node number n: "An operand node has a smaller number than its user." (Which numbers a field
  -- may hold at all is `field_allowed`.)
  unfoldable pub field_names : ℕ → Field → ℤ → Bool
  field_names n unused z = true
  field_names n any_number z = true
  field_names n truth_value z = true
  field_names n (variable_number t) z = names (variable_count bs) z
  field_names n slot_number z = names (slot_count bs) z
  field_names n (array_number t) z = names (length (array_records bs)) z
  field_names n (node_number t) z = names n z

  -- and what it names has the field's type
  unfoldable pub field_typed : Field → ℤ → Bool
  field_typed unused z = true
  field_typed any_number z = true
  field_typed truth_value z = true
  field_typed (variable_number t) z = same_sort (variable_sort z) t
  field_typed slot_number z = true
  field_typed (array_number t) z = same_sort (array_sort z) t
  field_typed (node_number t) z = same_sort (node_sort z) t

  -- a node whose kind exists
  unfoldable pub kind_fault : ℕ → Kind → ℕ → Option ℕ
  kind_fault n k p =
      or_else (unless 3 (eqb (aux_at bs p) 0 && field_allowed k.field_x (x_at bs p) && field_allowed k.field_y (y_at bs p)))
      (or_else (unless 4 (field_names n k.field_x (x_at bs p) && field_names n k.field_y (y_at bs p)))
      (unless 5 (field_typed k.field_x (x_at bs p) && field_typed k.field_y (y_at bs p))))

  unfoldable pub node_fault : ℕ → ℕ → Option ℕ
  node_fault n p = elim (kind_of (kind_at bs p)) [ none ↦ some 3 | some k ↦ kind_fault n k p ]

  -- "a constraint has no free slot": none of the first n slots is free in node k
  unfoldable pub no_free_slot : ℕ → ℕ → Bool
  no_free_slot k zero = true
  no_free_slot k (suc n) = no_free_slot k n && not (free_in n (tree_at (node_trees bs) k))

  unfoldable pub constraint_fault : ℕ → Option ℕ
  constraint_fault p =
      or_else (unless 3 (eqb (kind_at bs p) 0 && eqb (aux_at bs p) 0 && is_zero (y_at bs p)))
      (or_else (unless 4 (names (node_count bs) (x_at bs p)))
      (or_else (unless 5 (same_sort (node_sort (x_at bs p)) boolean))
      (unless 6 (no_free_slot (nat_abs (x_at bs p)) (slot_count bs)))))

  -- ---- the sections

  -- arrays from the AR record p on, that one number j: the AR, its ELs ("an EL missing" is 2), and those behind
  unfoldable pub arrays_fault : ℕ → ℕ → ℕ → Option Refusal
  arrays_fault zero j p = none
  arrays_fault (suc more) j p =
      elim (marked bs AR p) [
        | true ↦
            or_else (first_fault (λ i. array_fault j p) p 1)
            (or_else (first_fault (λ i. element_fault (sort_of_kind (kind_at bs p)) (suc p + i)) (suc p) (nat_abs (y_at bs p)))
            (arrays_fault more (suc j) (behind_array bs p)))
        | false ↦ none
      ]

  -- "wrong mark or order": a record that no section takes
  unfoldable pub rest_fault : Option Refusal
  rest_fault = cond (ltb (rest_at bs) (record_count bs)) (refuse 2 (rest_at bs)) none

  -- "length below 12, above 60,000, or no multiple of 12"
  unfoldable pub length_allowed : Bool
  length_allowed = leb record_size (length bs) && leb (length bs) most_bytes && eqb (length bs % record_size) 0

  unfoldable pub length_fault : Option Refusal
  length_fault = cond length_allowed none (refuse 1 0)

  -- "Order: 7, 1, then the first faulty record and in it 2 to 6 upward": the length, then section by section
  unfoldable pub check_order : List (Option Refusal)
  check_order =
      length_fault
      ∷ first_fault (λ i. header_fault 0) 0 1
      ∷ first_fault (λ i. variable_fault i (variables_at bs + i)) (variables_at bs) (variable_count bs)
      ∷ first_fault (λ i. slot_fault i (slots_at bs + i)) (slots_at bs) (slot_count bs)
      ∷ arrays_fault (record_count bs) 0 (arrays_at bs)
      ∷ first_fault (λ n. node_fault n (nodes_at bs + n)) (nodes_at bs) (node_count bs)
      ∷ first_fault (λ i. constraint_fault (constraints_at bs + i)) (constraints_at bs) (constraint_count bs)
      ∷ rest_fault
      ∷ []

  unfoldable pub check_fault : Option Refusal
  check_fault = first check_order
