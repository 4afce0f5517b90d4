-- "It is never refused by the check": the check finds no fault in a translation.
use mathlib.Core.Path.{◌≡◌, sym, ◌∙◌}
use Prim.Native.Nat.{ℕ, ◌+◌, ◌*◌, ◌≤◌, ◌<◌}
use native.Mathlib.Nat.{mul-mod_right, mul-one, mul-le-mul_left}
use native.Mathlib.Omega.{arith}
use mathlib.Core.Bool.{true}
use mathlib.Core.List.{List, []}
use mathlib.Core.Option.{none}
use lib.IntN.{pos}
use lib.ListN.{length, get_or, take}
use lib.Seq.{get_or-take, length-take-le}
use Rattle.numbers.specs.Whole.{eq_z}
use Rattle.numbers.proofs.Tests.{&&-intro}
use Rattle.numbers.proofs.Division.{eq_z-refl}
use Rattle.language.specs.Readings.{Reading}
use Rattle.language.specs.Tables.{Row, truth_row, free_in}
use Rattle.rules.specs.TotalRows.{first_of}
use Rattle.rules.specs.Soundness.{RowFits}
use Rattle.rules.proofs.Nodes.{IsNode→HasTree-bool, RowsFit-at}
use Rattle.rules.proofs.Translation.{WellFormed-new_rows}
use Rattle.table.specs.Records.{HD, record_size, first_letter, second_letter}
use Rattle.answers.specs.Sections.{variables_at, slots_at, nodes_at, constraints_at, variable_count, slot_count, node_count, constraint_count, declarations, rows, node_trees, constraints}
use Rattle.answers.specs.Check.{is_zero, header_fault, variable_fault, slot_fault, node_fault, constraint_fault, check_fault}
use Rattle.answers.specs.Answers.{translated, new_count, translation}
use Rattle.answers.proofs.Faults.{neither, unless-none}
use Rattle.answers.proofs.Listed.{listed-≡}
use Rattle.answers.proofs.Fields.{rows_below}
use Rattle.answers.proofs.NoFaults.{LengthAllowed, NoFaults→check_fault}
use Rattle.answers.proofs.NodesFit.{NodePassed→none}
use Rattle.answers.proofs.ConstraintsFit.{ClosedNode, ConstraintPassed→none}
use Rattle.answers.proofs.RowRecords.{row_of-RecordIs, RowFits→NodePassed}
use Rattle.answers.proofs.NewConstraints.{P_node, P-free}
use Rattle.answers.proofs.NewRecords.{length-translation, record_count-translation, copied-alike}
use Rattle.answers.proofs.NewWords.{header_is, node-is, constraint-is}
use Rattle.answers.proofs.NewSections.{slots_at-new, variable_count-new, slot_count-new}
use Rattle.answers.proofs.NewArrays.{nodes_at-new, arrays_fault-new}
use Rattle.answers.proofs.NewTable.{constraints_at-new, rest_at-new, node_count-new, constraint_count-new, declarations-new, rows_new}
use Rattle.answers.proofs.SameFaults.{variable_fault-alike, slot_fault-alike}
use Rattle.answers.proofs.Translatable.{Translatable}

module _ (bs : List ℕ) (ρ : Reading) where
  -- the translation
  abbrev new : List ℕ
  new = translation bs ρ

  -- its rows
  abbrev new_table : List Row
  new_table = (translated bs ρ).rows

  module _ (h : Translatable bs ρ) where
    -- The new table's length is allowed.
    length-allowed : LengthAllowed new
    unfolding new_count
    length-allowed =
        let some_record : 1 ≤ new_count bs ρ = omega (arith, h.sections) in
        let size : length new ≡ record_size * new_count bs ρ = length-translation bs ρ h.passed in
        record {
          some_bytes = rw size (rw mul-one at (mul-le-mul_left record_size some_record));
          few_bytes = rw size h.few_bytes;
          whole = rw size (mul-mod_right record_size (new_count bs ρ));
        }

    -- Its header counts its records.
    header_none : header_fault new 0 ≡ none
    unfolding header_fault is_zero first_letter second_letter
    header_none =
        let r = header_is bs ρ h in
        neither (unless-none 2 _ (rw (r.marks HD) tt))
        (unless-none 3 _
        (rw (r.kind_is, r.aux_is, r.x_is, r.y_is, record_count-translation bs ρ h.passed)
        (&&-intro (eq_z (pos (new_count bs ρ)) (pos (new_count bs ρ))) _ (eq_z-refl (pos (new_count bs ρ))) (eq_z-refl (pos 0)))))

    -- Its variables are copied,
    variables_none : (i : ℕ) → i < variable_count new → variable_fault new i (variables_at new + i) ≡ none
    unfolding variables_at
    variables_none i l =
        let b : i < variable_count bs = rw (variable_count-new bs ρ h) at l in
        variable_fault-alike (copied-alike bs ρ h.passed (1 + i) (omega arith) (omega (arith, h.sections))) i ∙ h.passed.variables_passed i b

    -- and so are its slots.
    slots_none : (i : ℕ) → i < slot_count new → slot_fault new i (slots_at new + i) ≡ none
    slots_none i l =
        let b : i < slot_count bs = rw (slot_count-new bs ρ h) at l in
        rw (slots_at-new bs ρ h)
        (slot_fault-alike (copied-alike bs ρ h.passed (slots_at bs + i) (omega (arith, h.sections)) (omega (arith, h.sections))) i ∙ h.passed.slots_passed i b)

    -- ---- nodes

    -- The rows of its first n nodes are the first n of the rules' rows.
    rows_below-new : (n : ℕ) → n ≤ length new_table → rows_below new n ≡ take n new_table
    rows_below-new n l =
        listed-≡ n _ (take n new_table) (truth_row true) (length-take-le n new_table l)
        (λ k b.
        rw (nodes_at-new bs ρ h)
        (row_of-RecordIs new (nodes_at bs + k) (get_or new_table k (truth_row true)) (node-is bs ρ h k (truth_row true) (omega arith))
        ∙ sym (get_or-take n new_table k (truth_row true) b)))

    -- Its nodes fit behind those before them.
    nodes_none : (n : ℕ) → n < node_count new → node_fault new n (nodes_at new + n) ≡ none
    unfolding translated
    nodes_none n l =
        let b : n < length new_table = rw (node_count-new bs ρ h) at l in
        let r : Row = get_or new_table n (truth_row true) in
        let fits : RowFits (declarations bs) (take n new_table) r =
        RowsFit-at (declarations bs) [] new_table (WellFormed-new_rows ρ (declarations bs) (rows bs) h.passed.well_formed).rows_fit n (truth_row true) b in
        rw (nodes_at-new bs ρ h)
        (NodePassed→none new n (nodes_at bs + n)
        (RowFits→NodePassed new (nodes_at bs + n) r (node-is bs ρ h n (truth_row true) b) n
        (rw (declarations-new bs ρ h, rows_below-new n (omega arith)) fits)))

    -- ---- constraints

    -- No slot is free in P of a constraint.
    closed-P : (i : ℕ) (l : i < length (constraints bs)) → ClosedNode new (first_of ρ (declarations bs) (rows bs) (get_or (constraints bs) i 0))
    unfolding node_trees translated free_in
    closed-P i l t b = rw (rows_new bs ρ h, (IsNode→HasTree-bool (P_node bs h.passed i l ρ)).tree) (P-free bs h.passed i l ρ t (rw (slot_count-new bs ρ h) at b))

    -- Its constraints name such nodes.
    constraints_none : (i : ℕ) → i < constraint_count new → constraint_fault new (constraints_at new + i) ≡ none
    unfolding translated
    constraints_none i l =
        let b : i < length (constraints bs) = rw (constraint_count-new bs ρ h) at l in
        let r = constraint-is bs ρ h i b in
        rw (constraints_at-new bs ρ h)
        (ConstraintPassed→none new (nodes_at bs + length new_table + i)
        (record {
          kind_is = r.kind_is;
          aux_is = r.aux_is;
          y_is = r.y_is;
          nonneg = rw r.x_is tt;
          node = rw (r.x_is, rows_new bs ρ h) (P_node bs h.passed i b ρ);
          closed = rw r.x_is (closed-P i b);
        }))

    -- ---- the check

    -- The check finds no fault in a translation.
    pub check_fault-new : check_fault new ≡ none
    check_fault-new =
        NoFaults→check_fault new
        (record {
          length-allowed = length-allowed;
          header_none = header_none;
          variables_none = variables_none;
          slots_none = slots_none;
          arrays_none = arrays_fault-new bs ρ h;
          nodes_none = nodes_none;
          constraints_none = constraints_none;
          no_rest = rw (record_count-translation bs ρ h.passed, rest_at-new bs ρ h) (omega arith);
        })
