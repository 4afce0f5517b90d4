-- The arrays of a translation stand where they stood, with the elements that they had, and have no fault.
use mathlib.Core.Path.{◌≡◌, refl, ap, ◌∙◌}
use Prim.Native.Nat.{ℕ, suc, ◌+◌, ◌≤◌, ◌<◌}
use native.Mathlib.Omega.{arith}
use mathlib.Core.Bool.{Bool, true, false, ◌||◌}
use mathlib.Core.List.{List, [], ◌∷◌}
use mathlib.Core.Option.{none}
use lib.Dec.{T, eqb}
use lib.IntN.{ℤ, nat_abs}
use Rattle.language.specs.Syntax.{Sort}
use Rattle.language.specs.Readings.{Reading}
use Rattle.table.specs.Records.{AR, EL, record_count, first_letter, kind_at, x_at, y_at}
use Rattle.table.proofs.Alike.{marked-alike, kind_at-alike, aux_at-alike, x_at-alike, y_at-alike}
use Rattle.answers.specs.Sections.{sort_of_kind, behind_array, arrays_from, arrays_end, variables_at, arrays_at, nodes_at, variable_count, array_records}
use Rattle.answers.specs.Check.{names, same_sort, variable_sort, arrays_fault}
use Rattle.answers.specs.Answers.{new_count, translation}
use Rattle.answers.proofs.ArrayRuns.{ArrayPassed, ArraysPassed, ArraysPassed→walk, ArraysPassed-ordered, ArraysPassed-length}
use Rattle.answers.proofs.Elements.{ElementPassed, none→ElementPassed, ElementPassed→none}
use Rattle.answers.proofs.Fields.{names→}
use Rattle.answers.proofs.NewRecords.{record_count-translation, copied-alike}
use Rattle.answers.proofs.NewSections.{unmarked_kept, arrays_at-new, variable_count-new}
use Rattle.answers.proofs.SameFaults.{array_fault-alike}
use Rattle.answers.proofs.Translatable.{Translatable}

module _ (bs : List ℕ) (ρ : Reading) where
  -- the translation
  abbrev new : List ℕ
  new = translation bs ρ

  module _ (h : Translatable bs ρ) where
    -- A declared variable keeps its type.
    variable_sort-new : (z : ℤ) → nat_abs z < variable_count bs → variable_sort new z ≡ variable_sort bs z
    unfolding variable_sort variables_at
    variable_sort-new z l =
        ap sort_of_kind (kind_at-alike (copied-alike bs ρ h.passed (1 + nat_abs z) (omega arith) (omega (arith, h.sections))))

    -- An element keeps its type.
    typed-kept : (t : Sort) (b : Bool) (z : ℤ) → T (b || names (variable_count bs) z) → T (b || same_sort (variable_sort bs z) t) → T (b || same_sort (variable_sort new z) t)
    typed-kept t true z n s = tt
    typed-kept t false z n s = rw (variable_sort-new z (names→ (variable_count bs) z n).1) s

    -- An element that has passed passes again.
    element_kept : (t : Sort) (p : ℕ) → 1 ≤ p → p < nodes_at bs → ElementPassed bs t p → ElementPassed new t p
    element_kept t p l b e =
        let a = copied-alike bs ρ h.passed p l b in
        record {
          mark = rw (marked-alike a EL) e.mark;
          allowed = rw (kind_at-alike a, aux_at-alike a, x_at-alike a, y_at-alike a) e.allowed;
          named = rw (kind_at-alike a, x_at-alike a, variable_count-new bs ρ h) e.named;
          typed = rw (kind_at-alike a, x_at-alike a) (typed-kept t (eqb (kind_at bs p) 0) (x_at bs p) e.named e.typed);
        }

    -- An array that has passed passes again.
    array-kept : (j p : ℕ) → 1 ≤ p → behind_array bs p ≤ nodes_at bs → ArrayPassed bs j p → ArrayPassed new j p
    unfolding behind_array
    array-kept j p l b e =
        let within : p < nodes_at bs = omega arith in
        let a = copied-alike bs ρ h.passed p l within in
        let t : Sort = sort_of_kind (kind_at bs p) in
        record {
          mark = rw (marked-alike a AR) e.mark;
          own = array_fault-alike a j ∙ e.own;
          elements = λ i c.
              let d : i < nat_abs (y_at bs p) = rw (y_at-alike a) at c in
              let again = element_kept t (suc p + i) (omega arith) (omega arith) (none→ElementPassed bs t (suc p + i) (e.elements i d)) in
              rw (kind_at-alike a) (ElementPassed→none new t (suc p + i) again);
        }

    -- An array ends where it ended.
    behind_array-new : (p : ℕ) → 1 ≤ p → behind_array bs p ≤ nodes_at bs → behind_array new p ≡ behind_array bs p
    unfolding behind_array
    behind_array-new p l b = rw (y_at-alike (copied-alike bs ρ h.passed p l (omega arith)))

    -- No array ends at the first record.
    1≤behind_array : (p : ℕ) → 1 ≤ behind_array bs p
    unfolding behind_array
    1≤behind_array p = omega arith

    -- All arrays that have passed pass again.
    arrays-kept : (j p : ℕ) (ps : List ℕ) (e : ℕ) → 1 ≤ p → e ≤ nodes_at bs → ArraysPassed bs j p ps e → ArraysPassed new j p ps e
    unfolding first_letter
    arrays-kept j p [] e l b a = (a.0, unmarked_kept bs ρ h AR refl refl p l (omega (arith, a.0)) a.1)
    arrays-kept j p (q ∷ ps) e l b a =
        let behind : behind_array bs p ≤ nodes_at bs = omega (arith, ArraysPassed-ordered bs (suc j) (behind_array bs p) ps a.2) in (
          a.0,
          array-kept j p l behind a.1,
          rw (behind_array-new p l behind) (arrays-kept (suc j) (behind_array bs p) ps e (1≤behind_array p) b a.2),
        )

    -- ---- where they stand

    -- The arrays of the old table are those of the new one,
    pub arrays-run-new : ArraysPassed new 0 (arrays_at new) (array_records bs) (nodes_at bs)
    arrays-run-new =
        rw (arrays_at-new bs ρ h)
        (arrays-kept 0 (arrays_at bs) (array_records bs) (nodes_at bs) (omega (arith, h.sections)) (omega arith) h.passed.arrays_run)

    -- so the walk over them finds the same,
    arrays-walk-new : (arrays_from new (record_count new) (arrays_at new) ≡ array_records bs) × (arrays_end new (record_count new) (arrays_at new) ≡ nodes_at bs)
        × (arrays_fault new (record_count new) 0 (arrays_at new) ≡ none)
    unfolding new_count
    arrays-walk-new =
        ArraysPassed→walk new 0 (arrays_at new) (array_records bs) (nodes_at bs) (record_count new) arrays-run-new
        (rw (record_count-translation bs ρ h.passed) (omega (arith, ArraysPassed-length bs 0 (arrays_at bs) (array_records bs) h.passed.arrays_run)))

    -- the same records,
    pub array_records-new : array_records new ≡ array_records bs
    unfolding array_records
    array_records-new = arrays-walk-new.0

    -- the same end, where the nodes begin,
    pub nodes_at-new : nodes_at new ≡ nodes_at bs
    unfolding nodes_at
    nodes_at-new = arrays-walk-new.1

    -- and no fault.
    pub arrays_fault-new : arrays_fault new (record_count new) 0 (arrays_at new) ≡ none
    arrays_fault-new = arrays-walk-new.2
