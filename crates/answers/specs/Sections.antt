-- "Sections come in this order, each but the first may be empty": where each begins, and what a table declares.
-- Total on every byte string; what it says of a table that the check refuses is never used.
use Rattle.std.specs.Prelude.{ℕ, zero, suc, ◌+◌, ◌-◌, true, false, cond, List, [], ◌∷◌, ◌++◌, map, eqb, nat_abs}
use Rattle.language.specs.Syntax.{Sort, boolean, integer, Variable, Slot, Element, fixed, of_variable, Array, Declarations}
use Rattle.language.specs.Tables.{Row, Tree, trees}
use Rattle.table.specs.Records.{Mark, VR, SL, AR, ND, CN, marked, record_count, kind_at, x_at, y_at}
use Rattle.table.specs.Kinds.{kind_of, row_in}

-- f 0, f 1, .., f (n − 1)
unfoldable pub listed : {A : Type 0} → ℕ → (ℕ → A) → List A
listed zero f = []
listed (suc n) f = listed n f ++ (f n ∷ [])

-- kind 0 is bool, kind 1 integer
unfoldable pub sort_of_kind : ℕ → Sort
sort_of_kind k = cond (eqb k 0) boolean integer

module _ (bs : List ℕ) where
  -- The first record from p on without the mark m. There is one within the table's count of records: past the end nothing has a mark.
  unfoldable pub run_end : Mark → ℕ → ℕ → ℕ
  run_end m zero p = p
  run_end m (suc more) p = elim (marked bs m p) [ true ↦ run_end m more (suc p) | false ↦ p ]

  unfoldable pub end_of : Mark → ℕ → ℕ
  end_of m p = run_end m (record_count bs) p

  -- the record behind an array's elements: "exactly y EL records follow it"
  unfoldable pub behind_array : ℕ → ℕ
  behind_array p = suc p + nat_abs (y_at bs p)

  -- the AR records from p on, each behind the elements of the one before it
  unfoldable pub arrays_from : ℕ → ℕ → List ℕ
  arrays_from zero p = []
  arrays_from (suc more) p = elim (marked bs AR p) [ true ↦ p ∷ arrays_from more (behind_array p) | false ↦ [] ]

  unfoldable pub arrays_end : ℕ → ℕ → ℕ
  arrays_end zero p = p
  arrays_end (suc more) p = elim (marked bs AR p) [ true ↦ arrays_end more (behind_array p) | false ↦ p ]

  -- ---- where each section begins

  -- "HD: exactly one", then the variables
  unfoldable pub variables_at : ℕ
  variables_at = 1

  unfoldable pub slots_at : ℕ
  slots_at = end_of VR variables_at

  unfoldable pub arrays_at : ℕ
  arrays_at = end_of SL slots_at

  unfoldable pub nodes_at : ℕ
  nodes_at = arrays_end (record_count bs) arrays_at

  unfoldable pub constraints_at : ℕ
  constraints_at = end_of ND nodes_at

  -- the first record that no section takes
  unfoldable pub rest_at : ℕ
  rest_at = end_of CN constraints_at

  -- ---- how many of each: "Variables, slots, arrays and nodes are each numbered from 0"

  unfoldable pub variable_count : ℕ
  variable_count = slots_at - variables_at

  unfoldable pub slot_count : ℕ
  slot_count = arrays_at - slots_at

  unfoldable pub array_records : List ℕ
  array_records = arrays_from (record_count bs) arrays_at

  unfoldable pub node_count : ℕ
  node_count = constraints_at - nodes_at

  unfoldable pub constraint_count : ℕ
  constraint_count = rest_at - constraints_at

  -- ---- what they declare

  unfoldable pub variable_of : ℕ → Variable
  variable_of p = record { sort = sort_of_kind (kind_at bs p); low = x_at bs p; high = y_at bs p }

  unfoldable pub slot_of : ℕ → Slot
  slot_of p = record { low = x_at bs p; high = y_at bs p }

  -- EL: "0 constant x .., 1 variable number x"
  unfoldable pub element_of : ℕ → Element
  element_of p = cond (eqb (kind_at bs p) 0) (fixed (x_at bs p)) (of_variable (nat_abs (x_at bs p)))

  unfoldable pub array_of : ℕ → Array
  array_of p = record { sort = sort_of_kind (kind_at bs p); first = x_at bs p; elements = listed (nat_abs (y_at bs p)) (λ i. element_of (suc p + i)) }

  unfoldable pub declarations : Declarations
  declarations =
      record {
        variables = listed variable_count (λ i. variable_of (variables_at + i));
        slots = listed slot_count (λ i. slot_of (slots_at + i));
        arrays = map array_of array_records;
      }

  -- the row of a node record
  unfoldable pub row_of : ℕ → Row
  row_of p = row_in (kind_of (kind_at bs p)) (x_at bs p) (y_at bs p)

  unfoldable pub rows : List Row
  rows = listed node_count (λ i. row_of (nodes_at + i))

  unfoldable pub node_trees : List Tree
  node_trees = trees rows

  -- "CN: x = node number of the constraint"
  unfoldable pub constraints : List ℕ
  constraints = listed constraint_count (λ i. nat_abs (x_at bs (constraints_at + i)))
