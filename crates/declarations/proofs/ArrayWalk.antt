-- What the walk over the arrays keeps: the arrays passed have no fault.
use mathlib.Core.Path.{◌≡◌, sym, ◌∙◌, ap}
use mathlib.Core.Bool.{true, false}
use mathlib.Core.List.{List}
use mathlib.Core.Option.{Option, none, some, or_else}
use Prim.Native.Nat.{ℕ, suc, ◌+◌, ◌-◌, ◌≤◌, ◌<◌}
use native.Mathlib.Nat.{add-zero}
use native.Mathlib.Numerals.{add-one}
use native.Mathlib.Omega.{arith}
use lib.IntN.{nat_abs}
use Rattle.table.specs.Records.{AR, record_count, marked, kind_at, y_at}
use Rattle.kinds.specs.declared.Sort.{Sort}
use Rattle.kinds.specs.Entries.{declared_sort, type_of}
use Rattle.answers.specs.Sections.{sort_of_kind, behind_array}
use Rattle.answers.specs.Check.{Refusal, refuse, first_fault, array_fault, element_fault, arrays_fault}
use Rattle.answers.proofs.Faults.{or_else-none, or_else-some}
use Rattle.answers.proofs.SoundSections.{arrays-fault-on, arrays-fault-stop}
use Rattle.verdict.specs.Results.{fault_at}
use Rattle.declarations.proofs.ElementTests.{type-declared}

module _ (bs : List ℕ) where
  -- the faults of one array's elements
  abbrev pub of_elements : ℕ → ℕ → ℕ → Option Refusal
  of_elements kind from count = first_fault (λ i. element_fault bs (sort_of_kind kind) (from + i)) from count

  own-fault : (p : ℕ) (own : Option ℕ) → first_fault (λ i. own) p 1 ≡ fault_at p own
  unfolding first_fault or_else
  own-fault p own = ap (λ (q : ℕ). fault_at q own) (add-zero p)

  -- j arrays passed, the next would be at p
  pub record Passed (from j p : ℕ) : Type 0 where
    pub behind : from + j ≤ p
    pub same : arrays_fault bs (record_count bs) 0 from ≡ arrays_fault bs (record_count bs - j) j p

  pub none_passed : (from : ℕ) → Passed from 0 from
  none_passed from = record { behind = omega arith; same = ap (λ (k : ℕ). arrays_fault bs k 0 from) (omega arith) }

  pub all-passed : {from j p : ℕ} → Passed from j p → marked bs AR p ≡ false → none ≡ arrays_fault bs (record_count bs) 0 from
  all-passed {j = j} {p = p} w e = sym (w.same ∙ arrays-fault-stop bs _ j p e)

  module _ {from j p : ℕ} (w : Passed from j p) (h : p < record_count bs) (m : marked bs AR p ≡ true) where
    next : arrays_fault bs (record_count bs) 0 from
        ≡ or_else (fault_at p (array_fault bs j p))
        (or_else (of_elements (kind_at bs p) (suc p) (nat_abs (y_at bs p))) (arrays_fault bs (record_count bs - (j + 1)) (suc j) (behind_array bs p)))
    next =
        w.same ∙ ap (λ (k : ℕ). arrays_fault bs k j p) (omega (arith, w.behind)) ∙ arrays-fault-on bs (record_count bs - (j + 1)) j p m
        ∙ ap (λ (o : Option Refusal). or_else o (or_else (of_elements (kind_at bs p) (suc p) (nat_abs (y_at bs p))) (arrays_fault bs (record_count bs - (j + 1)) (suc j) (behind_array bs p)))) (own-fault p (array_fault bs j p))

    pub array-refused : array_fault bs j p ≡ some 3 → refuse 3 p ≡ arrays_fault bs (record_count bs) 0 from
    array-refused e = sym (next ∙ or_else-some _ (ap (fault_at p) e))

    module _ (e : array_fault bs j p ≡ none) {sort : Sort} {count : ℕ} (es : sort ≡ declared_sort (kind_at bs p)) (ec : count ≡ nat_abs (y_at bs p)) {r : Option Refusal}
        (er : r ≡ first_fault (λ i. element_fault bs (type_of sort) (p + 1 + i)) (p + 1) count) where
      wanted : type_of sort ≡ sort_of_kind (kind_at bs p)
      wanted = ap type_of es ∙ type-declared (kind_at bs p)

      from_elements : of_elements (kind_at bs p) (suc p) (nat_abs (y_at bs p)) ≡ r
      from_elements = sym (rw (← wanted, ← ec, ← (add-one p)) er)

      rest : arrays_fault bs (record_count bs) 0 from ≡ or_else r (arrays_fault bs (record_count bs - (j + 1)) (j + 1) (p + (1 + count)))
      unfolding behind_array
      rest =
          next ∙ or_else-none (ap (fault_at p) e)
          ∙ ap (λ (o : Option Refusal). or_else o (arrays_fault bs (record_count bs - (j + 1)) (suc j) (suc p + nat_abs (y_at bs p)))) from_elements
          ∙ ap (λ (q : ℕ). or_else r (arrays_fault bs (record_count bs - (j + 1)) (suc j) q)) {y = p + (1 + count)} (omega (arith, ec)) ∙ rw (← (add-one j))

      pub elements-refused : {f : Refusal} → r ≡ some f → some f ≡ arrays_fault bs (record_count bs) 0 from
      elements-refused q = sym (rest ∙ or_else-some _ q)

      pub one-passed : r ≡ none → Passed from (j + 1) (p + (1 + count))
      one-passed f = record { behind = omega (arith, w.behind); same = rest ∙ or_else-none f }
