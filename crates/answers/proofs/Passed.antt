-- What the check gives: everything that holds of a table in which it finds no fault.
use mathlib.Core.Path.{◌≡◌}
use Prim.Native.Nat.{ℕ, ◌+◌, ◌*◌, ◌-◌, ◌≤◌, ◌<◌}
use native.Mathlib.Nat.{le_of_mul-le-mul_left, mul-one}
use native.Mathlib.Omega.{arith}
use native.Mathlib.Decide.{dec_lt}
use mathlib.Core.List.{List}
use mathlib.Core.Option.{none}
use lib.Dec.{T}
use lib.IntN.{nat_abs}
use lib.ListN.{length}
use Rattle.numbers.specs.Limits.{most_bytes, most_variables, most_slots, most_arrays}
use Rattle.language.specs.Syntax.{boolean}
use Rattle.rules.specs.Soundness.{All, IsNode, WellFormed}
use Rattle.table.specs.Records.{Mark, VR, SL, AR, EL, ND, CN, record_size, record_count, marked, x_at}
use Rattle.table.proofs.Marks.{0<record_size, length-records, marked→<record_count}
use Rattle.answers.specs.Sections.{end_of, variables_at, slots_at, arrays_at, nodes_at, constraints_at, rest_at, variable_count, slot_count, array_records, node_count, constraint_count, declarations, rows, constraints}
use Rattle.answers.specs.Check.{header_fault, variable_fault, slot_fault, node_fault, constraint_fault, check_fault}
use Rattle.answers.proofs.NoFaults.{LengthAllowed, NoFaults, check_fault→NoFaults}
use Rattle.answers.proofs.SoundSections.{below→≤, variable-below, slot-below}
use Rattle.answers.proofs.Listed.{All-listed}
use Rattle.answers.proofs.Runs.{Run, run_end-Run}
use Rattle.answers.proofs.ArrayRuns.{ArraysPassed, none→ArraysPassed, ArraysPassed-ordered}
use Rattle.answers.proofs.ArraysFit.{ArraysPassed→ArrayFits, ArraysPassed→few, ArraysPassed→within}
use Rattle.answers.proofs.NodesFit.{none→NodePassed, NodePassed→RowFits, RowsFit-listed}
use Rattle.answers.proofs.ConstraintsFit.{ClosedNode, ConstraintPassed, none→ConstraintPassed}

-- A table in which the check finds no fault.
pub record Passed (bs : List ℕ) : Type 0 where
  -- its bytes are whole records, at least one and not too many
  pub whole_records : length bs ≡ record_size * record_count bs
  pub some_record : 1 ≤ record_count bs
  pub few_bytes : length bs ≤ most_bytes
  -- its sections follow one another, up to the last record
  pub variables_run : Run bs VR (variables_at bs) (slots_at bs)
  pub slots_run : Run bs SL (slots_at bs) (arrays_at bs)
  pub arrays_run : ArraysPassed bs 0 (arrays_at bs) (array_records bs) (nodes_at bs)
  pub nodes_run : Run bs ND (nodes_at bs) (constraints_at bs)
  pub constraints_run : Run bs CN (constraints_at bs) (rest_at bs)
  pub no_rest : rest_at bs ≡ record_count bs
  -- no record has a fault of its own
  pub header_passed : header_fault bs 0 ≡ none
  pub variables_passed : (i : ℕ) → i < variable_count bs → variable_fault bs i (variables_at bs + i) ≡ none
  pub slots_passed : (i : ℕ) → i < slot_count bs → slot_fault bs i (slots_at bs + i) ≡ none
  pub nodes_passed : (n : ℕ) → n < node_count bs → node_fault bs n (nodes_at bs + n) ≡ none
  pub constraints_passed : (i : ℕ) → i < constraint_count bs → constraint_fault bs (constraints_at bs + i) ≡ none
  -- there are not too many of each
  pub few_variables : variable_count bs ≤ most_variables
  pub few_slots : slot_count bs ≤ most_slots
  pub few_arrays : length (array_records bs) ≤ most_arrays
  pub few_nodes : node_count bs < 5_000
  -- what nodes and elements name is there, with the right type; constraints are Boolean nodes with no free slot
  pub well_formed : WellFormed (declarations bs) (rows bs)
  pub boolean_constraints : All (IsNode (rows bs) boolean) (constraints bs)
  pub closed_constraints : All (ClosedNode bs) (constraints bs)

-- ---- small steps

module _ (bs : List ℕ) where
  -- A table that is not too long has not too many records.
  pub few_records : length bs ≤ most_bytes → record_count bs ≤ 5_000
  unfolding record_count record_size
  few_records h = omega arith

  -- ---- lengths and sections

  module _ (records : length bs ≡ record_size * record_count bs) where
    -- A mark stands within the table.
    marks-within : (m : Mark) (k : ℕ) → T (marked bs m k) → k < record_count bs
    marks-within m k t = marked→<record_count bs m k records t

    -- What `end_of` finds is a run,
    end_of-Run : (m : Mark) (p : ℕ) → Run bs m p (end_of bs m p)
    unfolding end_of
    end_of-Run m p = run_end-Run bs m (record_count bs) p (λ k t. omega (arith, marks-within m k t))

    -- and a run that begins within the table ends there.
    Run→within : {m : Mark} {p e : ℕ} → Run bs m p e → p ≤ record_count bs → e ≤ record_count bs
    Run→within {m} {p} {e} r l = go (dec_lt p e)
      where
        go : Dec (p < e) → e ≤ record_count bs
        go (yes b) = omega (arith, marks-within m (e - 1) (r.inside (e - 1) (omega arith) (omega arith)))
        go (no b) = omega arith

  -- ---- what the parts give

  -- The table's nodes and elements name what they should.
  NoFaults→WellFormed : NoFaults bs → ArraysPassed bs 0 (arrays_at bs) (array_records bs) (nodes_at bs) → WellFormed (declarations bs) (rows bs)
  unfolding declarations rows
  NoFaults→WellFormed h arrays =
      record {
        declared = record { arrays = ArraysPassed→ArrayFits bs 0 (arrays_at bs) (array_records bs) (nodes_at bs) arrays };
        rows_fit = RowsFit-listed (declarations bs) (node_count bs) _
            (λ n l. NodePassed→RowFits bs n (nodes_at bs + n) (none→NodePassed bs n (nodes_at bs + n) (h.nodes_none n l)));
      }

  -- Its constraints have passed.
  NoFaults→constraints : (P : ℕ → Type 0) → ((p : ℕ) → ConstraintPassed bs p → P (nat_abs (x_at bs p))) → NoFaults bs → All P (constraints bs)
  unfolding constraints
  NoFaults→constraints P f h =
      All-listed P (constraint_count bs) _ (λ i l. f (constraints_at bs + i) (none→ConstraintPassed bs (constraints_at bs + i) (h.constraints_none i l)))

  -- What the check gives.
  pub check_fault≡none→Passed : check_fault bs ≡ none → Passed bs
  unfolding variables_at slots_at arrays_at nodes_at constraints_at rest_at variable_count slot_count array_records node_count
  check_fault≡none→Passed h =
      let none_each : NoFaults bs = check_fault→NoFaults bs h in
      let lengths : LengthAllowed bs = none_each.length-allowed in
      let records : length bs ≡ record_size * record_count bs = length-records bs lengths.whole in
      let some_record : 1 ≤ record_count bs = le_of_mul-le-mul_left (rw (mul-one, ← records) lengths.some_bytes) 0<record_size in
      let variables_run : Run bs VR 1 (slots_at bs) = end_of-Run records VR 1 in
      let slots_run : Run bs SL (slots_at bs) (arrays_at bs) = end_of-Run records SL (slots_at bs) in
      let arrays_run : ArraysPassed bs 0 (arrays_at bs) (array_records bs) (nodes_at bs) =
      none→ArraysPassed bs (record_count bs) 0 (arrays_at bs) (λ k t. omega (arith, marks-within records AR k t)) none_each.arrays_none in
      let nodes_run : Run bs ND (nodes_at bs) (constraints_at bs) = end_of-Run records ND (nodes_at bs) in
      let constraints_run : Run bs CN (constraints_at bs) (rest_at bs) = end_of-Run records CN (constraints_at bs) in
      let slots-within : slots_at bs ≤ record_count bs = Run→within records variables_run some_record in
      let arrays-within : arrays_at bs ≤ record_count bs = Run→within records slots_run slots-within in
      let nodes-within : nodes_at bs ≤ record_count bs =
      ArraysPassed→within bs (record_count bs) (marks-within records EL) 0 (arrays_at bs) (array_records bs) (nodes_at bs) arrays-within arrays_run in
      let constraints-within : constraints_at bs ≤ record_count bs = Run→within records nodes_run nodes-within in
      let rest-within : rest_at bs ≤ record_count bs = Run→within records constraints_run constraints-within in
      let nothing_left : record_count bs ≤ rest_at bs = none_each.no_rest in
      let first-node : 1 ≤ nodes_at bs = omega (arith, variables_run.ordered, slots_run.ordered, ArraysPassed-ordered bs 0 (arrays_at bs) (array_records bs) arrays_run) in
      record {
        whole_records = records;
        some_record = some_record;
        few_bytes = lengths.few_bytes;
        variables_run = variables_run;
        slots_run = slots_run;
        arrays_run = arrays_run;
        nodes_run = nodes_run;
        constraints_run = constraints_run;
        no_rest = omega arith;
        header_passed = none_each.header_none;
        variables_passed = none_each.variables_none;
        slots_passed = none_each.slots_none;
        nodes_passed = none_each.nodes_none;
        constraints_passed = none_each.constraints_none;
        few_variables = below→≤ (variable_count bs) most_variables (λ i l. variable-below bs i (variables_at bs + i) (none_each.variables_none i l));
        few_slots = below→≤ (slot_count bs) most_slots (λ i l. slot-below bs i (slots_at bs + i) (none_each.slots_none i l));
        few_arrays = omega (arith, ArraysPassed→few bs 0 (arrays_at bs) (array_records bs) (nodes_at bs) (omega arith) arrays_run);
        few_nodes = omega (arith, few_records lengths.few_bytes);
        well_formed = NoFaults→WellFormed none_each arrays_run;
        boolean_constraints = NoFaults→constraints (IsNode (rows bs) boolean) (λ p c. c.node) none_each;
        closed_constraints = NoFaults→constraints (ClosedNode bs) (λ p c. c.closed) none_each;
      }

-- ---- the order of the sections

-- where each section begins, and that the records make up the sections
pub record SectionsOrdered (bs : List ℕ) : Type 0 where
  pub slots_after : slots_at bs ≡ 1 + variable_count bs
  pub arrays_after : arrays_at bs ≡ slots_at bs + slot_count bs
  pub nodes_after : arrays_at bs ≤ nodes_at bs
  pub constraints_after : constraints_at bs ≡ nodes_at bs + node_count bs
  pub records_counted : record_count bs ≡ constraints_at bs + constraint_count bs

-- The sections of a table that has passed stand so.
pub Passed→SectionsOrdered : (bs : List ℕ) → Passed bs → SectionsOrdered bs
unfolding variables_at variable_count slot_count node_count constraint_count
Passed→SectionsOrdered bs p =
    record {
      slots_after = omega (arith, p.variables_run.ordered);
      arrays_after = omega (arith, p.slots_run.ordered);
      nodes_after = ArraysPassed-ordered bs 0 (arrays_at bs) (array_records bs) p.arrays_run;
      constraints_after = omega (arith, p.nodes_run.ordered);
      records_counted = omega (arith, p.constraints_run.ordered, p.no_rest);
    }
