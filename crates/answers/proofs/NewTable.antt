-- What a translation declares and holds: the same declarations, the rows of the rules, and for each constraint P of its node.
use mathlib.Core.Path.{◌≡◌, refl, sym, ap, ◌∙◌}
use Prim.Native.Nat.{ℕ, suc, ◌+◌, ◌≤◌, ◌<◌}
use native.Mathlib.Omega.{arith}
use mathlib.Core.Bool.{true}
use mathlib.Core.List.{List, [], ◌∷◌, map}
use lib.IntN.{nat_abs}
use lib.ListN.{length, get_or, length-map}
use Rattle.language.specs.Readings.{Reading}
use Rattle.language.specs.Tables.{truth_row}
use Rattle.table.specs.Records.{ND, CN, first_letter, second_letter, y_at}
use Rattle.table.proofs.Alike.{kind_at-alike, x_at-alike, y_at-alike}
use Rattle.answers.specs.Sections.{listed, behind_array, variables_at, slots_at, arrays_at, nodes_at, constraints_at, rest_at, variable_count, slot_count, array_records, node_count, constraint_count, variable_of, slot_of, element_of, array_of, declarations, rows, constraints}
use Rattle.answers.specs.Answers.{translated, new_count, translation}
use Rattle.answers.proofs.Listed.{listed-≡, listed-agree}
use Rattle.numbers.proofs.Lists.{get_d_map}
use Rattle.answers.proofs.Runs.{Run}
use Rattle.answers.proofs.ArrayRuns.{ArraysPassed, ArraysPassed-ordered}
use Rattle.answers.proofs.RowRecords.{row_of-RecordIs}
use Rattle.answers.proofs.NewRecords.{copied-alike}
use Rattle.answers.proofs.NewWords.{node-is, constraint-is}
use Rattle.answers.proofs.NewSections.{unmarked_past, marked-node, marked-constraint, unmarked_behind_nodes, end_of-new, slots_at-new, variable_count-new, slot_count-new}
use Rattle.answers.proofs.NewArrays.{array_records-new, nodes_at-new}
use Rattle.answers.proofs.SameFaults.{variable_of-alike, slot_of-alike, element_of-alike}
use Rattle.answers.proofs.Translatable.{Translatable}

module _ (bs : List ℕ) (ρ : Reading) where
  -- the translation
  abbrev new : List ℕ
  new = translation bs ρ

  -- how many nodes it has
  abbrev new_node_count : ℕ
  new_node_count = length (translated bs ρ).rows

  module _ (h : Translatable bs ρ) where
    -- ---- nodes and constraints

    -- The records of the nodes are a section,
    nodes_run : Run new ND (nodes_at bs) (nodes_at bs + new_node_count)
    unfolding first_letter second_letter
    nodes_run =
        record {
          ordered = omega arith;
          inside = λ k l b. rw (marked-node bs ρ h ND k l b) tt;
          behind = unmarked_behind_nodes bs ρ h ND refl;
        }

    -- and so are those of the constraints, up to the end.
    constraints_run : Run new CN (nodes_at bs + new_node_count) (new_count bs ρ)
    unfolding first_letter second_letter new_count
    constraints_run =
        record {
          ordered = omega arith;
          inside = λ k l b. rw (marked-constraint bs ρ h CN k l (omega arith)) tt;
          behind = unmarked_past bs ρ h CN (new_count bs ρ) (omega arith);
        }

    -- So the constraints begin behind the nodes,
    pub constraints_at-new : constraints_at new ≡ nodes_at bs + new_node_count
    unfolding constraints_at new_count
    constraints_at-new = rw (nodes_at-new bs ρ h) (end_of-new bs ρ h ND nodes_run (omega arith))

    -- nothing is left behind them,
    pub rest_at-new : rest_at new ≡ new_count bs ρ
    unfolding rest_at
    rest_at-new = rw constraints_at-new (end_of-new bs ρ h CN constraints_run (omega arith))

    -- there are as many nodes as rows of the rules,
    pub node_count-new : node_count new ≡ new_node_count
    unfolding node_count
    node_count-new = rw (constraints_at-new, nodes_at-new bs ρ h) (omega arith)

    -- and as many constraints as there were.
    pub constraint_count-new : constraint_count new ≡ length (constraints bs)
    unfolding constraint_count new_count
    constraint_count-new = rw (rest_at-new, constraints_at-new) (omega arith)

    -- ---- declarations

    -- The variables are the same,
    variables-new : listed (variable_count new) (λ i. variable_of new (variables_at new + i)) ≡ listed (variable_count bs) (λ i. variable_of bs (variables_at bs + i))
    unfolding variables_at
    variables-new =
        rw (variable_count-new bs ρ h)
        (listed-agree (variable_count bs) _ _
        (λ k l. variable_of-alike (copied-alike bs ρ h.passed (1 + k) (omega arith) (omega (arith, h.sections)))))

    -- and the slots.
    slots-new : listed (slot_count new) (λ i. slot_of new (slots_at new + i)) ≡ listed (slot_count bs) (λ i. slot_of bs (slots_at bs + i))
    slots-new =
        rw (slot_count-new bs ρ h, slots_at-new bs ρ h)
        (listed-agree (slot_count bs) _ _
        (λ k l. slot_of-alike (copied-alike bs ρ h.passed (slots_at bs + k) (omega (arith, h.sections)) (omega (arith, h.sections)))))

    -- An array whose records are copied is the same array.
    array_of-new : (p : ℕ) → 1 ≤ p → behind_array bs p ≤ nodes_at bs → array_of new p ≡ array_of bs p
    unfolding array_of behind_array
    array_of-new p l b =
        let a = copied-alike bs ρ h.passed p l (omega arith) in
        rw (
          kind_at-alike a,
          x_at-alike a,
          y_at-alike a,
          listed-agree (nat_abs (y_at bs p)) (λ i. element_of new (suc p + i)) (λ i. element_of bs (suc p + i))
              (λ i c. element_of-alike (copied-alike bs ρ h.passed (suc p + i) (omega arith) (omega arith))),
        )

    -- So are all arrays,
    arrays-same : (j p : ℕ) (ps : List ℕ) (e : ℕ) → 1 ≤ p → e ≤ nodes_at bs → ArraysPassed bs j p ps e → map (array_of new) ps ≡ map (array_of bs) ps
    unfolding behind_array
    arrays-same j p [] e l b a = refl
    arrays-same j p (q ∷ ps) e l b a =
        let behind : behind_array bs p ≤ nodes_at bs = omega (arith, ArraysPassed-ordered bs (suc j) (behind_array bs p) ps a.2) in
        rw (a.0, array_of-new p l behind, arrays-same (suc j) (behind_array bs p) ps e (omega arith) b a.2)

    -- and there are no others.
    arrays-new : map (array_of new) (array_records new) ≡ map (array_of bs) (array_records bs)
    arrays-new =
        rw (array_records-new bs ρ h)
        (arrays-same 0 (arrays_at bs) (array_records bs) (nodes_at bs) (omega (arith, h.sections)) (omega arith) h.passed.arrays_run)

    -- "VR, SL, AR and EL are copied": the translation declares the same.
    pub declarations-new : declarations new ≡ declarations bs
    unfolding declarations
    declarations-new = λ i. record { variables = variables-new i; slots = slots-new i; arrays = arrays-new i }

    -- ---- rows and constraints

    -- The translation holds the rows of the rules.
    pub rows_new : rows new ≡ (translated bs ρ).rows
    unfolding rows
    rows_new =
        listed-≡ (node_count new) _ (translated bs ρ).rows (truth_row true) (sym node_count-new)
        (λ k l.
        rw (nodes_at-new bs ρ h)
        (row_of-RecordIs new (nodes_at bs + k) (get_or (translated bs ρ).rows k (truth_row true)) (node-is bs ρ h k (truth_row true) (rw node_count-new at l))))

    -- "Each CN becomes P of its node."
    pub constraints-new : constraints new ≡ map (λ k. get_or (translated bs ρ).firsts k 0) (constraints bs)
    unfolding constraints
    constraints-new =
        listed-≡ (constraint_count new) _ (map (λ k. get_or (translated bs ρ).firsts k 0) (constraints bs)) 0
        (length-map (constraints bs) (λ k. get_or (translated bs ρ).firsts k 0) ∙ sym constraint_count-new)
        (λ i l.
        let b : i < length (constraints bs) = rw constraint_count-new at l in
        rw (constraints_at-new) (ap nat_abs (constraint-is bs ρ h i b).x_is ∙ sym (get_d_map (λ k. get_or (translated bs ρ).firsts k 0) (constraints bs) i 0 0 b)))
