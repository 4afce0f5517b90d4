-- Where the sections begin: how the runs of one mark, and the arrays with their elements, go on and end.
use mathlib.Core.Path.{◌≡◌, refl}
use mathlib.Core.Bool.{Bool, true, false}
use mathlib.Core.Logic.{◌⊎◌, ⊎_elim}
use mathlib.Core.List.{List, [], ◌∷◌}
use Prim.Native.Nat.{ℕ, zero, suc, ◌%◌, ◌≤◌, ◌<◌}
use native.Mathlib.Nat.{eq-or-lt_of_le, le_refl, lt_irrefl, lt_of_le_of_lt}
use native.Mathlib.Omega.{arith}
use lib.Dec.{not_T}
use Rattle.numbers.proofs.Tests.{Tnot→≡false}
use lib.ListN.{length}
use Rattle.table.specs.Records.{Mark, AR, record_size, record_count, marked}
use Rattle.table.proofs.Marks.{length-records, marked→<record_count}
use Rattle.answers.specs.Sections.{run_end, behind_array, arrays_from, arrays_end}

module _ (bs : List ℕ) where
  -- the table is made of whole records
  abbrev pub Whole : Type 0
  Whole = length bs % record_size ≡ 0

  -- What has a mark is within the table,
  pub marked-within : Whole → (m : Mark) (p : ℕ) → marked bs m p ≡ true → p < record_count bs
  marked-within w m p e = marked→<record_count bs m p (length-records bs w) (rw e tt)

  -- so past the end nothing has one.
  pub unmarked_beyond : Whole → (m : Mark) (p : ℕ) → record_count bs ≤ p → marked bs m p ≡ false
  unmarked_beyond w m p h = Tnot→≡false (marked bs m p) (not_T (marked bs m p) (λ t. omega (arith, marked→<record_count bs m p (length-records bs w) t)))

  -- ---- a run of one mark

  module _ (m : Mark) where
    -- It goes on behind a record with the mark,
    pub run_on : (f k p : ℕ) → f ≡ suc k → marked bs m p ≡ true → run_end bs m f p ≡ run_end bs m k (suc p)
    unfolding run_end
    run_on f k p n e = rw (n, e, run_end)

    -- and stops at one without it.
    pub run_stop : (k p : ℕ) → marked bs m p ≡ false → run_end bs m k p ≡ p
    unfolding run_end
    run_stop zero p e = refl
    run_stop (suc k) p e = rw (e, run_end)

    -- It ends at its beginning or later,
    pub run_above : (k p : ℕ) → p ≤ run_end bs m k p
    unfolding run_end
    run_above zero p = le_refl p
    run_above (suc k) p = go (marked bs m p) (run_above k (suc p))
      where
        go : (b : Bool) → suc p ≤ run_end bs m k (suc p) → p ≤ elim b [ true ↦ run_end bs m k (suc p) | false ↦ p ]
        go true h = omega arith
        go false h = le_refl p

    -- and all in it have the mark.
    pub run_marked : (k p q : ℕ) → p ≤ q → q < run_end bs m k p → marked bs m q ≡ true
    unfolding run_end
    run_marked zero p q h l = absurd (lt_irrefl p (lt_of_le_of_lt h l))
    run_marked (suc k) p q h l = go (run_marked k (suc p) q) (marked bs m p) refl l (eq-or-lt_of_le h)
      where
        go : (suc p ≤ q → q < run_end bs m k (suc p) → marked bs m q ≡ true) → (b : Bool) → marked bs m p ≡ b
            → q < elim b [ true ↦ run_end bs m k (suc p) | false ↦ p ] → (p ≡ q) ⊎ (p < q) → marked bs m q ≡ true
        go rest true e l c = ⊎_elim (λ f. rw (← f) e) (λ f. rest f l) c
        go rest false e l c = absurd (lt_irrefl p (lt_of_le_of_lt h l))

  -- ---- the arrays

  -- They go on behind the elements of one,
  module _ (f k p : ℕ) (n : f ≡ suc k) (e : marked bs AR p ≡ true) where
    pub arrays-on : arrays_from bs f p ≡ p ∷ arrays_from bs k (behind_array bs p)
    unfolding arrays_from
    arrays-on = rw (n, e, arrays_from)

    pub arrays-end-on : arrays_end bs f p ≡ arrays_end bs k (behind_array bs p)
    unfolding arrays_end
    arrays-end-on = rw (n, e, arrays_end)

  -- and end at a record without the mark.
  pub arrays-stop : (k p : ℕ) → marked bs AR p ≡ false → arrays_from bs k p ≡ []
  unfolding arrays_from
  arrays-stop zero p e = refl
  arrays-stop (suc k) p e = rw (e, arrays_from)

  pub arrays-end-stop : (k p : ℕ) → marked bs AR p ≡ false → arrays_end bs k p ≡ p
  unfolding arrays_end
  arrays-end-stop zero p e = refl
  arrays-end-stop (suc k) p e = rw (e, arrays_end)
