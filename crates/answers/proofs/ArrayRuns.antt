-- The arrays of a table: what the check gives of them, said without its walk, and that this determines what the walk finds.
use mathlib.Core.Path.{◌≡◌, refl}
use Prim.Native.Nat.{ℕ, zero, suc, ◌+◌, ◌≤◌, ◌<◌}
use native.Mathlib.Nat.{not-suc-le-zero, le_of_suc-le-suc, add-zero, suc-add, add-suc}
use native.Mathlib.Omega.{arith}
use mathlib.Core.Bool.{Bool, true, false, not}
use mathlib.Core.List.{List, [], ◌∷◌}
use mathlib.Core.Option.{none, or_else}
use lib.Dec.{T, not_T}
use lib.IntN.{nat_abs}
use lib.ListN.{length, get_or}
use Rattle.numbers.proofs.Tests.{T→≡true, Tnot→≡false}
use Rattle.table.specs.Records.{AR, marked, kind_at, y_at}
use Rattle.answers.specs.Sections.{sort_of_kind, behind_array, arrays_from, arrays_end}
use Rattle.answers.specs.Check.{first_fault, array_fault, element_fault, arrays_fault}
use Rattle.answers.proofs.Faults.{neither, none-or_else, first_fault-none, none-first_fault}

module _ (bs : List ℕ) where
  -- The array number j, whose AR is record p, and its elements have no fault.
  pub record ArrayPassed (j p : ℕ) : Type 0 where
    pub mark : T (marked bs AR p)
    pub own : array_fault bs j p ≡ none
    pub elements : (i : ℕ) → i < nat_abs (y_at bs p) → element_fault bs (sort_of_kind (kind_at bs p)) (suc p + i) ≡ none

  -- The arrays from number j on stand at the records ps: the first of them at p, each behind the elements of the one before it, and e behind the last.
  abbrev pub ArraysPassed : ℕ → ℕ → List ℕ → ℕ → Type 0
  ArraysPassed j p [] e = (p ≡ e) × T (not (marked bs AR p))
  ArraysPassed j p (q ∷ qs) e = (q ≡ p) × ArrayPassed j p × ArraysPassed (suc j) (behind_array bs p) qs e

  -- The fault of the arrays from p on, where p is one.
  arrays_fault-marked : (more j p : ℕ) → T (marked bs AR p)
      → arrays_fault bs (suc more) j p
      ≡ or_else (first_fault (λ i. array_fault bs j p) p 1)
      (or_else (first_fault (λ i. element_fault bs (sort_of_kind (kind_at bs p)) (suc p + i)) (suc p) (nat_abs (y_at bs p)))
      (arrays_fault bs more (suc j) (behind_array bs p)))
  unfolding arrays_fault
  arrays_fault-marked more j p t = rw (T→≡true (marked bs AR p) t, arrays_fault)

  -- An array and those behind it have no fault together where they have none each,
  ArrayPassed→none : (more j p : ℕ) → ArrayPassed j p → arrays_fault bs more (suc j) (behind_array bs p) ≡ none → arrays_fault bs (suc more) j p ≡ none
  ArrayPassed→none more j p a rest =
      rw (arrays_fault-marked more j p a.mark)
      (neither (first_fault-none _ p 1 (λ i l. a.own)) (neither (first_fault-none _ (suc p) (nat_abs (y_at bs p)) a.elements) rest))

  -- and only there.
  none→ArrayPassed : (more j p : ℕ) → T (marked bs AR p) → arrays_fault bs (suc more) j p ≡ none
      → ArrayPassed j p × (arrays_fault bs more (suc j) (behind_array bs p) ≡ none)
  none→ArrayPassed more j p t h =
      let first = none-or_else _ _ (rw (arrays_fault-marked more j p t) at h) in
      let second = none-or_else _ _ first.1 in (
        record { mark = t; own = none-first_fault _ p 1 first.0 0 (omega arith); elements = none-first_fault _ (suc p) (nat_abs (y_at bs p)) second.0 },
        second.1,
      )

  -- Where the walk finds no fault, and has enough records to look at, it has passed the arrays that it lists.
  pub none→ArraysPassed : (more j p : ℕ) → ((k : ℕ) → T (marked bs AR k) → k < p + more) → arrays_fault bs more j p ≡ none
      → ArraysPassed j p (arrays_from bs more p) (arrays_end bs more p)
  unfolding arrays_from arrays_end behind_array
  none→ArraysPassed zero j p within h = (refl, not_T (marked bs AR p) (λ t. omega (arith, within p t)))
  none→ArraysPassed (suc more) j p within h =
      go (marked bs AR p) refl (none→ArraysPassed more (suc j) (behind_array bs p) (λ k t. further k (within k t)))
    where
      further : (k : ℕ) → k < p + suc more → k < behind_array bs p + more
      further k l = omega arith

      go : (b : Bool) → marked bs AR p ≡ b
          → (arrays_fault bs more (suc j) (behind_array bs p) ≡ none
          → ArraysPassed (suc j) (behind_array bs p) (arrays_from bs more (behind_array bs p)) (arrays_end bs more (behind_array bs p)))
          → ArraysPassed j p
          (elim b [ true ↦ p ∷ arrays_from bs more (behind_array bs p) | false ↦ [] ])
          (elim b [ true ↦ arrays_end bs more (behind_array bs p) | false ↦ p ])
      go true e rest = let parts = none→ArrayPassed more j p (rw e tt) h in (refl, parts.0, rest parts.1)
      go false e rest = (refl, rw e tt)

  -- Arrays that have passed are those that the walk lists, the walk ends behind them, and it finds no fault.
  pub ArraysPassed→walk : (j p : ℕ) (ps : List ℕ) (e more : ℕ) → ArraysPassed j p ps e → length ps ≤ more
      → (arrays_from bs more p ≡ ps) × (arrays_end bs more p ≡ e) × (arrays_fault bs more j p ≡ none)
  unfolding arrays_from arrays_end arrays_fault
  ArraysPassed→walk j p [] e zero h l = (refl, h.0, refl)
  ArraysPassed→walk j p [] e (suc more) h l =
      let unmarked : marked bs AR p ≡ false = Tnot→≡false (marked bs AR p) h.1 in
      (rw (unmarked, arrays_from), rw (unmarked, arrays_end) h.0, rw (unmarked, arrays_fault))
  ArraysPassed→walk j p (q ∷ ps) e zero h l = absurd (not-suc-le-zero l)
  ArraysPassed→walk j p (q ∷ ps) e (suc more) h l =
      let rest = ArraysPassed→walk (suc j) (behind_array bs p) ps e more h.2 (le_of_suc-le-suc l) in
      let first : marked bs AR p ≡ true = T→≡true (marked bs AR p) h.1.mark in
      (rw (first, arrays_from, rest.0, h.0), rw (first, arrays_end) rest.1, ArrayPassed→none more j p h.1 rest.2)

  -- ---- what follows

  -- The arrays end where they begin or further on.
  pub ArraysPassed-ordered : (j p : ℕ) (ps : List ℕ) {e : ℕ} → ArraysPassed j p ps e → p ≤ e
  unfolding behind_array
  ArraysPassed-ordered j p [] h = omega (arith, h.0)
  ArraysPassed-ordered j p (q ∷ ps) h = omega (arith, ArraysPassed-ordered (suc j) (behind_array bs p) ps h.2)

  -- Each array has its number and stands, with its elements, between the first record and the last.
  pub ArraysPassed-at : (j p : ℕ) (ps : List ℕ) {e : ℕ} → ArraysPassed j p ps e → (i : ℕ) → i < length ps
      → ArrayPassed (j + i) (get_or ps i 0) × (p ≤ get_or ps i 0) × (behind_array bs (get_or ps i 0) ≤ e)
  unfolding behind_array
  ArraysPassed-at j p [] h i l = absurd (not-suc-le-zero l)
  ArraysPassed-at j p (q ∷ ps) {e} h zero l =
      rw (h.0, add-zero) (h.1, omega arith, ArraysPassed-ordered (suc j) (behind_array bs p) ps h.2)
  ArraysPassed-at j p (q ∷ ps) h (suc i) l =
      let rest = ArraysPassed-at (suc j) (behind_array bs p) ps h.2 i (le_of_suc-le-suc l) in
      (rw (suc-add j i, ← add-suc j i) at rest.0, omega (arith, rest.1), rest.2)

  -- Each array takes a record at least.
  pub ArraysPassed-length : (j p : ℕ) (ps : List ℕ) {e : ℕ} → ArraysPassed j p ps e → p + length ps ≤ e
  unfolding behind_array
  ArraysPassed-length j p [] h = omega (arith, h.0)
  ArraysPassed-length j p (q ∷ ps) h = omega (arith, ArraysPassed-length (suc j) (behind_array bs p) ps h.2)
