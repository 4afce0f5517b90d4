-- Arrays that have passed the check are declared as they should be: few enough, near enough, with 1 to 1,024 elements of the right type, all
-- within the table.
use mathlib.Core.Path.{◌≡◌}
use Prim.Native.Nat.{ℕ, suc, ◌+◌, ◌-◌, ◌≤◌, ◌<◌}
use native.Mathlib.Omega.{arith}
use mathlib.Core.List.{List, [], ◌∷◌, map}
use mathlib.Core.Option.{none}
use lib.Dec.{T, leb, leb→le, ltb→lt}
use lib.IntN.{ℤ, pos, negsuc, nat_abs}
use lib.ListN.{length}
use Rattle.numbers.specs.Limits.{most_arrays, most_elements, reach}
use Rattle.numbers.specs.Whole.{between}
use Rattle.numbers.proofs.Tests.{&&-fst, &&-snd}
use Rattle.language.specs.Syntax.{Sort}
use Rattle.rules.specs.Soundness.{All, ElementFits, ArrayFits}
use Rattle.table.specs.Records.{EL, marked, kind_at, x_at, y_at}
use Rattle.answers.specs.Sections.{sort_of_kind, behind_array, declarations, array_of}
use Rattle.answers.specs.Check.{near, array_fault}
use Rattle.answers.proofs.Faults.{none-unless}
use Rattle.answers.proofs.Listed.{length-listed, All-listed}
use Rattle.answers.proofs.Elements.{none→ElementPassed, ElementPassed→ElementFits}
use Rattle.answers.proofs.ArrayRuns.{ArrayPassed, ArraysPassed}

-- A number between two natural numbers.
between→nat_abs : (l h : ℕ) (z : ℤ) → T (between (pos l) (pos h) z) → (l ≤ nat_abs z) × (nat_abs z ≤ h)
unfolding between
between→nat_abs l h (pos n) t = (leb→le l n (&&-fst (leb l n) (leb n h) t), leb→le n h (&&-snd (leb l n) (leb n h) t))
between→nat_abs l h (negsuc n) t = absurd t

module _ (bs : List ℕ) where
  -- what an AR's own test says
  record ArrayAllowed (j p : ℕ) : Type 0 where
    few : j < most_arrays
    near_enough : nat_abs (x_at bs p) ≤ reach
    some_element : 1 ≤ nat_abs (y_at bs p)
    few_elements : nat_abs (y_at bs p) ≤ most_elements

  -- An AR without a fault of its own has passed its test.
  array_fault→ArrayAllowed : (j p : ℕ) → array_fault bs j p ≡ none → ArrayAllowed j p
  unfolding array_fault near
  array_fault→ArrayAllowed j p h =
      let passed = none-unless 3 _ h in
      let size = between→nat_abs 1 most_elements (y_at bs p) (search &&-snd) in
      record {
        few = ltb→lt j most_arrays (search &&-fst);
        near_enough = leb→le (nat_abs (x_at bs p)) reach (search (&&-fst, &&-snd));
        some_element = size.0;
        few_elements = size.1;
      }

  -- An array that has passed is declared as it should be.
  ArrayPassed→ArrayFits : (j p : ℕ) → ArrayPassed bs j p → ArrayFits (declarations bs) (array_of bs p)
  unfolding array_of
  ArrayPassed→ArrayFits j p h =
      let a = array_fault→ArrayAllowed j p h.own in
      record {
        near = a.near_enough;
        some_element = rw length-listed a.some_element;
        few = rw length-listed a.few_elements;
        typed = All-listed (ElementFits (declarations bs) (sort_of_kind (kind_at bs p))) (nat_abs (y_at bs p)) _
            (λ i l.
            let t : Sort = sort_of_kind (kind_at bs p) in
            ElementPassed→ElementFits bs t (suc p + i) (none→ElementPassed bs t (suc p + i) (h.elements i l)));
      }

  -- So are all arrays that have passed.
  pub ArraysPassed→ArrayFits : (j p : ℕ) (ps : List ℕ) (e : ℕ) → ArraysPassed bs j p ps e → All (ArrayFits (declarations bs)) (map (array_of bs) ps)
  ArraysPassed→ArrayFits j p [] e h = tt
  ArraysPassed→ArrayFits j p (q ∷ ps) e h =
      (rw h.0 (ArrayPassed→ArrayFits j p h.1), ArraysPassed→ArrayFits (suc j) (behind_array bs p) ps e h.2)

  -- There are not too many.
  pub ArraysPassed→few : (j p : ℕ) (ps : List ℕ) (e : ℕ) → j ≤ most_arrays → ArraysPassed bs j p ps e → j + length ps ≤ most_arrays
  ArraysPassed→few j p [] e l h = omega arith
  ArraysPassed→few j p (q ∷ ps) e l h =
      omega (arith, ArraysPassed→few (suc j) (behind_array bs p) ps e (array_fault→ArrayAllowed j p h.1.own).few h.2)

  module _ (n : ℕ) (within : (k : ℕ) → T (marked bs EL k) → k < n) where
    -- An array that has passed stands within the table, with its elements.
    ArrayPassed→within : (j p : ℕ) → ArrayPassed bs j p → behind_array bs p ≤ n
    unfolding behind_array
    ArrayPassed→within j p h =
        let a = array_fault→ArrayAllowed j p h.own in
        let last : ℕ = nat_abs (y_at bs p) - 1 in
        let passed = none→ElementPassed bs (sort_of_kind (kind_at bs p)) (suc p + last) (h.elements last (omega (arith, a.some_element))) in
        omega (arith, a.some_element, within (suc p + last) passed.mark)

    -- So do all arrays that have passed, if the first does.
    pub ArraysPassed→within : (j p : ℕ) (ps : List ℕ) (e : ℕ) → p ≤ n → ArraysPassed bs j p ps e → e ≤ n
    ArraysPassed→within j p [] e l h = omega (arith, h.0)
    ArraysPassed→within j p (q ∷ ps) e l h = ArraysPassed→within (suc j) (behind_array bs p) ps e (ArrayPassed→within j p h.1) h.2
