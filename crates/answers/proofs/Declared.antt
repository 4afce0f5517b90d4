-- What a table declares, by number: the variable, slot, array or row of each number is the one of its record, and there are as many as there
-- are records.
use mathlib.Core.Path.{◌≡◌}
use Prim.Native.Nat.{ℕ, ◌+◌, ◌≤◌, ◌<◌}
use mathlib.Core.List.{List, map}
use lib.ListN.{length, get_or, length-map, get_or-eq_default}
use Rattle.numbers.proofs.Lists.{get_d_map}
use Rattle.language.specs.Tables.{Row}
use Rattle.language.specs.Meaning.{slot_at, no_slot, array_at, no_array}
use Rattle.rules.specs.Bounds.{variable_at, no_variable}
use Rattle.answers.specs.Sections.{variables_at, slots_at, nodes_at, variable_count, slot_count, array_records, node_count, constraint_count, variable_of, slot_of, array_of, row_of, declarations, rows, constraints}
use Rattle.answers.proofs.Listed.{length-listed, get_d_listed, get_d_listed_past}

module _ (bs : List ℕ) where
  -- ---- how many

  -- variables,
  pub length-variables : length (declarations bs).variables ≡ variable_count bs
  unfolding declarations
  length-variables = length-listed (variable_count bs) _

  -- slots,
  pub length-slots : length (declarations bs).slots ≡ slot_count bs
  unfolding declarations
  length-slots = length-listed (slot_count bs) _

  -- arrays,
  pub length-arrays : length (declarations bs).arrays ≡ length (array_records bs)
  unfolding declarations
  length-arrays = length-map (array_records bs) (array_of bs)

  -- rows,
  pub length-rows : length (rows bs) ≡ node_count bs
  unfolding rows
  length-rows = length-listed (node_count bs) _

  -- and constraints there are.
  pub length-constraints : length (constraints bs) ≡ constraint_count bs
  unfolding constraints
  length-constraints = length-listed (constraint_count bs) _

  -- ---- which

  -- The variable of a number,
  pub variable_at-declarations : (v : ℕ) → v < variable_count bs → variable_at (declarations bs) v ≡ variable_of bs (variables_at bs + v)
  unfolding declarations variable_at
  variable_at-declarations v h = get_d_listed (variable_count bs) _ _ v h

  -- the slot,
  pub slot_at-declarations : (s : ℕ) → s < slot_count bs → slot_at (declarations bs) s ≡ slot_of bs (slots_at bs + s)
  unfolding declarations slot_at
  slot_at-declarations s h = get_d_listed (slot_count bs) _ _ s h

  -- the array,
  pub array_at-declarations : (A : ℕ) → A < length (array_records bs) → array_at (declarations bs) A ≡ array_of bs (get_or (array_records bs) A 0)
  unfolding declarations array_at
  array_at-declarations A h = get_d_map (array_of bs) (array_records bs) A 0 _ h

  -- and the row of a number.
  pub get_d_rows : (k : ℕ) (d : Row) → k < node_count bs → get_or (rows bs) k d ≡ row_of bs (nodes_at bs + k)
  unfolding rows
  get_d_rows k d h = get_d_listed (node_count bs) _ d k h

  -- ---- and past the last

  -- No variable,
  pub variable_at-past : (v : ℕ) → variable_count bs ≤ v → variable_at (declarations bs) v ≡ no_variable
  unfolding declarations variable_at
  variable_at-past v h = get_d_listed_past (variable_count bs) _ _ v h

  -- no slot
  pub slot_at-past : (s : ℕ) → slot_count bs ≤ s → slot_at (declarations bs) s ≡ no_slot
  unfolding declarations slot_at
  slot_at-past s h = get_d_listed_past (slot_count bs) _ _ s h

  -- and no array is declared there.
  pub array_at-past : (A : ℕ) → length (array_records bs) ≤ A → array_at (declarations bs) A ≡ no_array
  unfolding declarations array_at
  array_at-past A h = get_or-eq_default (map (array_of bs) (array_records bs)) no_array {n = A} (rw length-map h)
