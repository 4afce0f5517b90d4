-- What the array of places and the padded table declare: slots, arrays and elements, each where it is declared and past the end.
use mathlib.Core.Path.{◌≡◌, refl, ap, ◌∙◌}
use Prim.Native.Nat.{ℕ, zero, suc, ◌+◌, ◌≤◌, ◌<◌}
use native.Mathlib.Omega.{arith}
use mathlib.Core.Bool.{Bool, true, false, cond}
use mathlib.Core.List.{List, [], ◌∷◌, map}
use mathlib.Core.Option
use mathlib.Core.Option.{none, some}
use lib.IntN.{ℤ, pos, nat_abs, ◌-ℤ◌}
use lib.ListN.{length, get_or, take, get_elem?, length-map, get_or-eq_default}
use lib.Seq.{get_or-take, length-take-le}
use lib.Signed.{le_z}
use Rattle.numbers.proofs.Lists.{get_d_map}
use Rattle.language.specs.Meaning.{Assignment, no_slot, no_array, slot_at, array_at, element_value, element_at}
use Rattle.table.specs.Records.{x_at, y_at}
use Rattle.answers.specs.Sections.{listed, slot_of, element_of, array_of}
use Rattle.answers.proofs.Listed.{length-listed, get_d_listed, get_d_listed_past}
use Rattle.evaluator.specs.declared.places.TablePlaces.{TablePlaces}
use Rattle.evaluator.specs.Walks.{declared}

-- ---- lists by their places

found_at : {A : Type 0} (xs : List A) (k : ℕ) (d : A) → k < length xs → get_elem? xs k ≡ some (get_or xs k d)
found_at [] k d h = absurd (omega arith)
found_at (x ∷ xs) zero d h = refl
found_at (x ∷ xs) (suc k) d h = found_at xs k d (omega arith)

missing_at : {A : Type 0} (xs : List A) (k : ℕ) → length xs ≤ k → get_elem? xs k ≡ none
missing_at [] k h = refl
missing_at (x ∷ xs) zero h = absurd (omega arith)
missing_at (x ∷ xs) (suc k) h = missing_at xs k (omega arith)

-- ---- slots and arrays

module _ (bs : List ℕ) (places : TablePlaces) where
  pub slot-declared : (s : ℕ) → s < places.slot_count → slot_at (declared bs places) s ≡ slot_of bs (places.slots_from + s)
  unfolding slot_at declared
  slot-declared s h = get_d_listed places.slot_count (λ i. slot_of bs (places.slots_from + i)) no_slot s h

  pub slot-missing : (s : ℕ) → places.slot_count ≤ s → slot_at (declared bs places) s ≡ no_slot
  unfolding slot_at declared
  slot-missing s h = get_d_listed_past places.slot_count (λ i. slot_of bs (places.slots_from + i)) no_slot s h

  pub array-declared : (A : ℕ) → A < places.array_count → places.array_count ≤ length places.arrays → array_at (declared bs places) A ≡ array_of bs (get_or places.arrays A 0)
  unfolding array_at declared
  array-declared A h l =
      get_d_map (array_of bs) (take places.array_count places.arrays) A 0 no_array (rw length-take-le h) ∙ ap (array_of bs) (get_or-take places.array_count places.arrays A 0 h)

  pub array-missing : (A : ℕ) → places.array_count ≤ A → places.array_count ≤ length places.arrays → array_at (declared bs places) A ≡ no_array
  unfolding array_at declared
  array-missing A h l = get_or-eq_default (map (array_of bs) (take places.array_count places.arrays)) no_array {n = A} (rw (length-map, length-take-le places.array_count places.arrays l) h)

-- ---- elements

module _ (α : Assignment) (bs : List ℕ) (p : ℕ) (i : ℤ) where
  pub before-array : le_z (x_at bs p) i ≡ false → element_at α (array_of bs p) i ≡ none
  unfolding element_at array_of
  before-array h = rw h

  pub behind-elements : le_z (x_at bs p) i ≡ true → nat_abs (y_at bs p) ≤ nat_abs (i -ℤ x_at bs p) → element_at α (array_of bs p) i ≡ none
  unfolding element_at array_of
  behind-elements t h = rw (t, missing_at (listed (nat_abs (y_at bs p)) (λ j. element_of bs (suc p + j))) (nat_abs (i -ℤ x_at bs p)) (rw length-listed h))

  pub element_found : le_z (x_at bs p) i ≡ true → nat_abs (i -ℤ x_at bs p) < nat_abs (y_at bs p) →
      element_at α (array_of bs p) i ≡ some (element_value α (element_of bs (suc p + nat_abs (i -ℤ x_at bs p))))
  unfolding element_at array_of
  element_found t h =
      rw (t, found_at (listed (nat_abs (y_at bs p)) (λ j. element_of bs (suc p + j))) (nat_abs (i -ℤ x_at bs p)) (element_of bs 0) (rw length-listed h))
      (ap (λ e. some (element_value α e)) (get_d_listed (nat_abs (y_at bs p)) (λ j. element_of bs (suc p + j)) (element_of bs 0) (nat_abs (i -ℤ x_at bs p)) h))

  -- An array that is not declared has no element.
  pub element_missing : element_at α no_array i ≡ none
  unfolding element_at no_array
  element_missing = by_test (le_z (pos 0) i)
    where
      by_test : (b : Bool) → cond b (Option.map (element_value α) (get_elem? [] (nat_abs (i -ℤ pos 0)))) none ≡ none
      by_test true = refl
      by_test false = refl
