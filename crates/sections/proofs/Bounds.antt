-- The sections that `find_places` finds: in order, and within the table.
use mathlib.Core.Path.{◌≡◌, ap}
use mathlib.Core.List.{List}
use Prim.Native.Nat.{ℕ, zero, suc, ◌+◌, ◌-◌, ◌%◌, ◌≤◌}
use native.Mathlib.Omega.{arith}
use lib.ListN.{length}
use Rattle.table.specs.Records.{Mark, VR, SL, ND, CN, record_size, record_count}
use Rattle.answers.specs.Sections.{end_of, variables_at, slots_at, arrays_at, nodes_at, constraints_at, rest_at, variable_count, slot_count, array_records, node_count, constraint_count}
use Rattle.answers.proofs.RunEnds.{marked-within, run_above, run_marked}
use Rattle.sections.specs.declared.Places.{Places}
use Rattle.sections.specs.Places.{places_of}
use Rattle.sections.specs.Within.{Section}

module _ (bs : List ℕ) (few : record_count bs ≤ 5_000) (whole : length bs % record_size ≡ 0) where
  end-above : (m : Mark) (p : ℕ) → p ≤ end_of bs m p
  unfolding end_of
  end-above m p = run_above bs m (record_count bs) p

  run_section : (m : Mark) (p : ℕ) → Section bs p (end_of bs m p - p)
  unfolding end_of
  run_section m p = record { few = few; within = λ i h. marked-within bs whole m (p + i) (run_marked bs m (record_count bs) p (p + i) (omega arith) (omega arith)) }

  pub variables-section : Section bs (variables_at bs) (variable_count bs)
  unfolding variable_count slots_at
  variables-section = run_section VR (variables_at bs)

  pub slots-section : Section bs (slots_at bs) (slot_count bs)
  unfolding slot_count arrays_at
  slots-section = run_section SL (slots_at bs)

  pub nodes-section : Section bs (nodes_at bs) (node_count bs)
  unfolding node_count constraints_at
  nodes-section = run_section ND (nodes_at bs)

  pub constraints-section : Section bs (constraints_at bs) (constraint_count bs)
  unfolding constraint_count rest_at
  constraints-section = run_section CN (constraints_at bs)

  pub slots-behind : variables_at bs ≤ slots_at bs
  unfolding slots_at
  slots-behind = end-above VR (variables_at bs)

  pub arrays-behind : slots_at bs ≤ arrays_at bs
  unfolding arrays_at
  arrays-behind = end-above SL (slots_at bs)

  pub constraints-behind : nodes_at bs ≤ constraints_at bs
  unfolding constraints_at
  constraints-behind = end-above ND (nodes_at bs)

  pub rest-behind : constraints_at bs ≤ rest_at bs
  unfolding rest_at
  rest-behind = end-above CN (constraints_at bs)

-- a section has no more records than the table
pub section-short : {bs : List ℕ} {from : ℕ} (n : ℕ) → Section bs from n → n ≤ 5_000
section-short zero s = omega arith
section-short (suc n) s = omega (arith, s.within n (omega arith), s.few)

-- ---- the places, one by one

module _ (bs : List ℕ) {at : Places} (e : at ≡ places_of bs) where
  pub slots-place : at.slots ≡ slots_at bs
  unfolding places_of
  slots-place = ap (λ (q : Places). q.slots) e

  pub arrays-place : at.arrays ≡ arrays_at bs
  unfolding places_of
  arrays-place = ap (λ (q : Places). q.arrays) e

  pub array_count : at.array_count ≡ length (array_records bs)
  unfolding places_of
  array_count = ap (λ (q : Places). q.array_count) e

  pub nodes-place : at.nodes ≡ nodes_at bs
  unfolding places_of
  nodes-place = ap (λ (q : Places). q.nodes) e

  pub constraints-place : at.constraints ≡ constraints_at bs
  unfolding places_of
  constraints-place = ap (λ (q : Places). q.constraints) e

  pub rest-place : at.rest ≡ rest_at bs
  unfolding places_of
  rest-place = ap (λ (q : Places). q.rest) e

  pub variables-counted : at.slots - 1 ≡ variable_count bs
  unfolding variable_count variables_at
  variables-counted = ap (λ (n : ℕ). n - 1) slots-place

  pub slots_counted : at.arrays - at.slots ≡ slot_count bs
  unfolding slot_count
  slots_counted = rw (arrays-place, slots-place)

  pub nodes-counted : at.constraints - at.nodes ≡ node_count bs
  unfolding node_count
  nodes-counted = rw (constraints-place, nodes-place)

  pub constraints-counted : at.rest - at.constraints ≡ constraint_count bs
  unfolding constraint_count
  constraints-counted = rw (rest-place, constraints-place)
