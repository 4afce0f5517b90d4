-- What a table without a fault among its declarations keeps to: how many of each there are, and their kinds.
use mathlib.Core.Path.{◌≡◌, refl, sym, ap, ◌∙◌}
use mathlib.Core.Bool.{Bool, true, false}
use mathlib.Core.List.{List, ◌∷◌}
use mathlib.Core.Option.{none, or_else}
use Prim.Native.Nat.{ℕ, zero, suc, ◌+◌, ◌≤◌, ◌<◌}
use native.Mathlib.Nat.{not-suc-le-zero, le_of_suc-le-suc, add-zero}
use native.Mathlib.Omega.{arith}
use native.Mathlib.Decide.{dec_le}
use lib.Dec.{ltb→lt, leb→le}
use lib.IntN.{nat_abs}
use lib.ListN.{length, get_or}
use Rattle.numbers.specs.Limits.{most_variables, most_slots, most_arrays}
use Rattle.numbers.proofs.Tests.{&&-fst, &&-snd}
use Rattle.table.specs.Records.{AR, record_count, marked, kind_at, y_at}
use Rattle.answers.specs.Sections.{sort_of_kind, arrays_from, arrays_at, array_records, behind_array, variables_at, slots_at, variable_count, slot_count}
use Rattle.answers.specs.Check.{first_fault, is_kind, variable_fault, slot_fault, array_fault, element_fault, arrays_fault}
use Rattle.answers.proofs.Faults.{none-or_else, none-unless, none-first_fault}
use Rattle.answers.proofs.RunEnds.{arrays-on, arrays-stop}

-- If every number below n is below m, n is at most m.
pub below→≤ : (n m : ℕ) → ((i : ℕ) → i < n → i < m) → n ≤ m
below→≤ n m h = elim (dec_le n m) [ yes b ↦ b | no b ↦ absurd (omega (arith, h m (omega arith))) ]

module _ (bs : List ℕ) where
  -- A variable's own test says that there are not too many before it,
  pub variable-below : (i p : ℕ) → variable_fault bs i p ≡ none → i < most_variables
  unfolding variable_fault
  variable-below i p e = let passed = none-unless 3 _ e in ltb→lt i most_variables (search &&-fst)

  pub variable-kind : (i p : ℕ) → variable_fault bs i p ≡ none → kind_at bs p ≤ 1
  unfolding variable_fault is_kind
  variable-kind i p e = let passed = none-unless 3 _ e in leb→le (kind_at bs p) 1 (search (&&-fst, &&-snd))

  pub few_variables : first_fault (λ i. variable_fault bs i (variables_at bs + i)) (variables_at bs) (variable_count bs) ≡ none → variable_count bs ≤ most_variables
  few_variables e = below→≤ (variable_count bs) most_variables (λ i l. variable-below i _ (none-first_fault _ _ (variable_count bs) e i l))

  -- and so does a slot's,
  pub slot-below : (i p : ℕ) → slot_fault bs i p ≡ none → i < most_slots
  unfolding slot_fault
  slot-below i p e = let passed = none-unless 3 _ e in ltb→lt i most_slots (search &&-fst)

  pub few_slots : first_fault (λ i. slot_fault bs i (slots_at bs + i)) (slots_at bs) (slot_count bs) ≡ none → slot_count bs ≤ most_slots
  few_slots e = below→≤ (slot_count bs) most_slots (λ i l. slot-below i _ (none-first_fault _ _ (slot_count bs) e i l))

  -- and an array's.
  array-below : (j p : ℕ) → array_fault bs j p ≡ none → j < most_arrays
  unfolding array_fault
  array-below j p e = let passed = none-unless 3 _ e in ltb→lt j most_arrays (search &&-fst)

  -- how the faults of the arrays go on, and end
  pub arrays-fault-on : (k j p : ℕ) → marked bs AR p ≡ true
      → arrays_fault bs (suc k) j p
      ≡ or_else (first_fault (λ i. array_fault bs j p) p 1)
      (or_else (first_fault (λ i. element_fault bs (sort_of_kind (kind_at bs p)) (suc p + i)) (suc p) (nat_abs (y_at bs p))) (arrays_fault bs k (suc j) (behind_array bs p)))
  unfolding arrays_fault
  arrays-fault-on k j p e = rw (e, arrays_fault)

  pub arrays-fault-stop : (k j p : ℕ) → marked bs AR p ≡ false → arrays_fault bs k j p ≡ none
  unfolding arrays_fault
  arrays-fault-stop zero j p e = refl
  arrays-fault-stop (suc k) j p e = rw (e, arrays_fault)

  -- no array of a sound run of arrays has a fault
  array-sound : (k j p : ℕ) → arrays_fault bs k j p ≡ none → (a : ℕ) → a < length (arrays_from bs k p) → array_fault bs (j + a) (get_or (arrays_from bs k p) a 0) ≡ none
  unfolding arrays_from
  array-sound zero j p e a h = absurd (not-suc-le-zero h)
  array-sound (suc k) j p e a h = go (array-sound k (suc j) (behind_array bs p)) (marked bs AR p) refl
    where
      first : (b : ℕ) → b < length (p ∷ arrays_from bs k (behind_array bs p))
          → ((a : ℕ) → a < length (arrays_from bs k (behind_array bs p)) → array_fault bs (suc j + a) (get_or (arrays_from bs k (behind_array bs p)) a 0) ≡ none)
          → array_fault bs j p ≡ none → array_fault bs (j + b) (get_or (p ∷ arrays_from bs k (behind_array bs p)) b 0) ≡ none
      first zero l rest own = rw add-zero own
      first (suc b) l rest own =
          ap (λ (i : ℕ). array_fault bs i (get_or (arrays_from bs k (behind_array bs p)) b 0)) {y = suc j + b} (omega arith) ∙ rest b (le_of_suc-le-suc l)

      go : (arrays_fault bs k (suc j) (behind_array bs p) ≡ none → (a : ℕ) → a < length (arrays_from bs k (behind_array bs p))
          → array_fault bs (suc j + a) (get_or (arrays_from bs k (behind_array bs p)) a 0) ≡ none)
          → (b : Bool) → marked bs AR p ≡ b → array_fault bs (j + a) (get_or (arrays_from bs (suc k) p) a 0) ≡ none
      go rest true m =
          let f : _ = sym (arrays-fault-on k j p m) ∙ e in
          rw (arrays-on bs (suc k) k p refl m)
          (first a (rw (arrays-on bs (suc k) k p refl m) at h) (rest (none-or_else _ _ (none-or_else _ _ f).1).1) (none-first_fault (λ i. array_fault bs j p) p 1 (none-or_else _ _ f).0 0 (omega arith)))
      go rest false m = absurd (not-suc-le-zero (rw (arrays-stop bs (suc k) p m) at h))

  module _ (e : arrays_fault bs (record_count bs) 0 (arrays_at bs) ≡ none) where
    pub array-no-fault : (a : ℕ) → a < length (array_records bs) → array_fault bs a (get_or (array_records bs) a 0) ≡ none
    unfolding array_records
    array-no-fault a h =
        ap (λ (i : ℕ). array_fault bs i (get_or (array_records bs) a 0)) {y = 0 + a} (omega arith) ∙ array-sound (record_count bs) 0 (arrays_at bs) e a h

    pub few_arrays : length (array_records bs) ≤ most_arrays
    few_arrays = below→≤ (length (array_records bs)) most_arrays (λ a l. array-below a _ (array-no-fault a l))
