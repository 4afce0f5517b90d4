-- The sections of a translation: variables, slots and arrays stand where they stood and have no fault, then come the new nodes and as many
-- constraints as there were.
use mathlib.Core.Path.{◌≡◌, refl}
use Prim.Native.Nat.{ℕ, ◌+◌, ◌-◌, ◌≤◌, ◌<◌}
use native.Mathlib.Omega.{arith}
use native.Mathlib.Decide.{dec_lt}
use mathlib.Core.Bool.{true, false, not}
use mathlib.Core.List.{List}
use lib.Dec.{T, not_T}
use lib.ListN.{length}
use Rattle.language.specs.Readings.{Reading}
use Rattle.language.specs.Tables.{truth_row}
use Rattle.table.specs.Records.{Mark, VR, SL, ND, CN, record_count, first_letter, marked}
use Rattle.table.proofs.Marks.{marked→<record_count}
use Rattle.table.proofs.Alike.{marked-alike}
use Rattle.table.proofs.ReadBack.{same_mark}
use Rattle.answers.specs.Sections.{end_of, variables_at, slots_at, arrays_at, nodes_at, variable_count, slot_count, constraints}
use Rattle.answers.specs.Answers.{translated, new_count, translation}
use Rattle.answers.proofs.Runs.{Run, Run→run_end}
use Rattle.answers.proofs.NewRecords.{length-translation, record_count-translation, copied-alike}
use Rattle.answers.proofs.NewWords.{node-is, constraint-is}
use Rattle.answers.proofs.Translatable.{Translatable}

module _ (bs : List ℕ) (ρ : Reading) where
  -- the translation
  abbrev new : List ℕ
  new = translation bs ρ

  -- how many nodes it has
  abbrev new_node_count : ℕ
  new_node_count = length (translated bs ρ).rows

  module _ (h : Translatable bs ρ) where
    -- ---- marks

    -- Behind the last record nothing has a mark.
    pub unmarked_past : (m : Mark) (k : ℕ) → new_count bs ρ ≤ k → T (not (marked new m k))
    unmarked_past m k l =
        not_T (marked new m k)
        (λ t.
        let count : record_count new ≡ new_count bs ρ = record_count-translation bs ρ h.passed in
        omega (arith, count, marked→<record_count new m k (rw count (length-translation bs ρ h.passed)) t))

    -- A new node has its mark and no other.
    pub marked-node : (m : Mark) (k : ℕ) → nodes_at bs ≤ k → k < nodes_at bs + new_node_count → marked new m k ≡ same_mark ND m
    marked-node m k l b =
        let e : nodes_at bs + (k - nodes_at bs) ≡ k = omega arith in
        rw e at ((node-is bs ρ h (k - nodes_at bs) (truth_row true) (omega arith)).marks m)

    -- A new constraint has its mark and no other.
    pub marked-constraint : (m : Mark) (k : ℕ) → nodes_at bs + new_node_count ≤ k → k < nodes_at bs + new_node_count + length (constraints bs)
        → marked new m k ≡ same_mark CN m
    marked-constraint m k l b =
        let e : nodes_at bs + new_node_count + (k - (nodes_at bs + new_node_count)) ≡ k = omega arith in
        rw e at ((constraint-is bs ρ h (k - (nodes_at bs + new_node_count)) (omega arith)).marks m)

    -- Behind the nodes, no record has a mark other than that of a constraint.
    pub unmarked_behind_nodes : (m : Mark) → same_mark CN m ≡ false → T (not (marked new m (nodes_at bs + new_node_count)))
    unfolding new_count
    unmarked_behind_nodes m c = go (dec_lt 0 (length (constraints bs)))
      where
        go : Dec (0 < length (constraints bs)) → T (not (marked new m (nodes_at bs + new_node_count)))
        go (yes b) = rw (marked-constraint m (nodes_at bs + new_node_count) (omega arith) (omega arith), c) tt
        go (no b) = unmarked_past m (nodes_at bs + new_node_count) (omega arith)

    -- Behind the declarations, none has the mark of a declaration.
    unmarked_behind_declarations : (m : Mark) → same_mark ND m ≡ false → same_mark CN m ≡ false → T (not (marked new m (nodes_at bs)))
    unmarked_behind_declarations m n c = go (dec_lt 0 new_node_count)
      where
        go : Dec (0 < new_node_count) → T (not (marked new m (nodes_at bs)))
        go (yes b) = rw (marked-node m (nodes_at bs) (omega arith) (omega arith), n) tt
        go (no b) =
            let e : nodes_at bs + new_node_count ≡ nodes_at bs = omega arith in
            rw e at (unmarked_behind_nodes m c)

    -- A record among the declarations or just behind them that has not a declaration's mark has it not in the new table.
    pub unmarked_kept : (m : Mark) → same_mark ND m ≡ false → same_mark CN m ≡ false → (k : ℕ) → 1 ≤ k → k ≤ nodes_at bs
        → T (not (marked bs m k)) → T (not (marked new m k))
    unmarked_kept m n c k l b t = go (dec_lt k (nodes_at bs))
      where
        go : Dec (k < nodes_at bs) → T (not (marked new m k))
        go (yes d) = rw (marked-alike (copied-alike bs ρ h.passed k l d) m) t
        go (no d) = let e : k ≡ nodes_at bs = omega arith in rw e (unmarked_behind_declarations m n c)

    -- ---- variables and slots

    -- A section among the declarations is kept.
    Run-kept : (m : Mark) → same_mark ND m ≡ false → same_mark CN m ≡ false → {p e : ℕ} → 1 ≤ p → e ≤ nodes_at bs → Run bs m p e → Run new m p e
    Run-kept m n c l b r =
        record {
          ordered = r.ordered;
          inside = λ k q d. rw (marked-alike (copied-alike bs ρ h.passed k (omega arith) (omega arith)) m) (r.inside k q d);
          behind = unmarked_kept m n c _ (omega (arith, r.ordered)) b r.behind;
        }

    -- What `end_of` finds is the end of a run within the table.
    pub end_of-new : (m : Mark) {p e : ℕ} → Run new m p e → e ≤ new_count bs ρ → end_of new m p ≡ e
    unfolding end_of
    end_of-new m {p} {e} r l = Run→run_end new m (record_count new) r (rw (record_count-translation bs ρ h.passed) (omega arith))

    -- The slots begin where they began,
    pub slots_at-new : slots_at new ≡ slots_at bs
    unfolding slots_at variables_at new_count first_letter
    slots_at-new =
        end_of-new VR (Run-kept VR refl refl (omega arith) (omega (arith, h.sections)) h.passed.variables_run)
        (omega (arith, h.sections))

    -- and so do the arrays.
    pub arrays_at-new : arrays_at new ≡ arrays_at bs
    unfolding arrays_at new_count first_letter
    arrays_at-new =
        rw slots_at-new
        (end_of-new SL (Run-kept SL refl refl (omega (arith, h.sections)) h.sections.nodes_after h.passed.slots_run) (omega (arith, h.sections)))

    -- There are as many variables
    pub variable_count-new : variable_count new ≡ variable_count bs
    unfolding variable_count variables_at
    variable_count-new = rw slots_at-new

    -- and slots as there were.
    pub slot_count-new : slot_count new ≡ slot_count bs
    unfolding slot_count
    slot_count-new = rw (slots_at-new, arrays_at-new)
