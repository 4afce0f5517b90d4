-- Lookups: an index is inside the array exactly where l ≤ i ≤ u, the clamped index always is, and the element found there lies in
-- "the hull of its elements, variables by domain".
use mathlib.Core.Path.{◌≡◌, refl, sym, ap, ◌∙◌}
use Prim.Native.Nat.{ℕ, zero, suc, ◌+◌, ◌≤◌, ◌<◌}
use native.Mathlib.Omega.{arith}
use native.Mathlib.Nat.{le_trans}
use mathlib.Core.Bool.{Bool, true, false, cond, ◌&&◌}
use mathlib.Core.List.{List, [], ◌∷◌}
use mathlib.Core.Option.{Option, none, some, map, bind}
use lib.Dec.{T, le→leb}
use lib.IntN.{ℤ, pos, pred_ℤ, ◌+ℤ◌, ◌-ℤ◌, nat_abs}
use lib.ListN.{length, get_elem?, get_or}
use lib.Signed.{le_z, ◌≤ℤ◌, le_z_yes}
use Rattle.numbers.specs.Limits.{limit}
use Rattle.numbers.specs.Whole.{within_limit}
use Rattle.numbers.specs.Whole as Whole
use Rattle.numbers.proofs.Tests.{T→≡true, &&-fst, &&-snd, T-iff}
use Rattle.numbers.proofs.Parts.{+-parts, pred_parts, nat_abs-parts, ≤→parts, parts→≤}
use Rattle.numbers.proofs.Order.{+-difference, greatest-of, least-≤ˡ, ≤-greatestˡ, least-absorbs, greatest-absorbs}
use Rattle.numbers.proofs.Division.{nat_abs-between}
use Rattle.language.specs.Syntax.{Sort, Element, fixed, of_variable, Array, Declarations}
use Rattle.language.specs.Meaning.{Assignment, Setting, no_array, array_at, element_value, element_at}
use Rattle.rules.specs.Bounds.{Interval, hull, element_interval, hull_with, elements_interval}
use Rattle.rules.specs.Rules.{last}
use Rattle.rules.specs.Soundness.{Within, Fits, ElementFits, All, ArrayFits, Declared}
use Rattle.rules.specs.TotalRows.{defined}
use Rattle.rules.proofs.Intervals.{within-only, within-hullˡ, within-hullʳ}
use Rattle.rules.proofs.Operands.{Agrees, defined-map}

-- ---- indices

module _ (A : Array) {i : ℤ} (h : A.first ≤ℤ i) where
  -- An index at most the last has an element.
  ≤last→< : i ≤ℤ last A → nat_abs (i -ℤ A.first) < length A.elements
  unfolding last
  ≤last→< k =
      let n = nat_abs (i -ℤ A.first) in
      let m = length A.elements in
      let k' : (A.first +ℤ pos n) ≤ℤ pred_ℤ (A.first +ℤ pos m) = rw (+-difference h) k in
      omega (arith, ≤→parts (A.first +ℤ pos n) (pred_ℤ (A.first +ℤ pos m)) k', +-parts A.first (pos n), +-parts A.first (pos m), pred_parts (A.first +ℤ pos m))

  -- And only such an index.
  <→≤last : nat_abs (i -ℤ A.first) < length A.elements → i ≤ℤ last A
  unfolding last
  <→≤last k =
      let n = nat_abs (i -ℤ A.first) in
      let m = length A.elements in
      rw (+-difference h) at (parts→≤ (A.first +ℤ pos n) (pred_ℤ (A.first +ℤ pos m))
      (omega (arith, +-parts A.first (pos n), +-parts A.first (pos m), pred_parts (A.first +ℤ pos m))))

-- An array with an element has its first index not behind its last.
first-≤-last : (A : Array) → 1 ≤ length A.elements → A.first ≤ℤ last A
unfolding last
first-≤-last A h = parts→≤ A.first (pred_ℤ (A.first +ℤ pos (length A.elements)))
    (omega (arith, +-parts A.first (pos (length A.elements)), pred_parts (A.first +ℤ pos (length A.elements))))

-- "h = A[max(l, min(u, Vi))]": the clamped index.
abbrev pub clamped_to : Array → ℤ → ℤ
clamped_to A i = Whole.greatest A.first (Whole.least (last A) i)

-- It is not before the first index.
pub first-≤-clamped : (A : Array) (i : ℤ) → A.first ≤ℤ clamped_to A i
first-≤-clamped A i = ≤-greatestˡ A.first (Whole.least (last A) i)

-- It is not behind the last index.
pub clamped-≤-last : (A : Array) (i : ℤ) → 1 ≤ length A.elements → clamped_to A i ≤ℤ last A
clamped-≤-last A i h = greatest-of A.first (Whole.least (last A) i) (λ z. z ≤ℤ last A) (first-≤-last A h) (least-≤ˡ (last A) i)

-- An index between the ends is left as it is.
pub clamped-inside : (A : Array) {i : ℤ} → A.first ≤ℤ i → i ≤ℤ last A → clamped_to A i ≡ i
clamped-inside A h k = ap (Whole.greatest A.first) (least-absorbs k) ∙ greatest-absorbs h

-- ---- what is found

-- A list has an element at each number below its length.
<length→defined : {X : Type 0} (xs : List X) (n : ℕ) → n < length xs → T (defined (get_elem? xs n))
unfolding defined
<length→defined [] n h = absurd (omega arith)
<length→defined (x ∷ xs) zero h = tt
<length→defined (x ∷ xs) (suc n) h = <length→defined xs n (omega arith)

-- And at no other.
defined→<length : {X : Type 0} (xs : List X) (n : ℕ) → T (defined (get_elem? xs n)) → n < length xs
unfolding defined
defined→<length [] n t = absurd t
defined→<length (x ∷ xs) zero t = omega arith
defined→<length (x ∷ xs) (suc n) t = omega (arith, defined→<length xs n t)

-- An index not before the first is counted from there.
element_at-first : (α : Assignment) (A : Array) {i : ℤ} → A.first ≤ℤ i → element_at α A i ≡ map (element_value α) (get_elem? A.elements (nat_abs (i -ℤ A.first)))
unfolding element_at
element_at-first α A {i} h = rw (T→≡true (le_z A.first i) h.le) refl

-- An index has an element exactly where l ≤ i and i ≤ u.
pub inside-defined : (α : Assignment) (A : Array) (i : ℤ) → le_z A.first i && le_z i (last A) ≡ defined (element_at α A i)
unfolding element_at defined
inside-defined α A i = go (le_z A.first i) (λ t. le_z_yes t)
  where
    found : Option Element
    found = get_elem? A.elements (nat_abs (i -ℤ A.first))

    go : (b : Bool) → (T b → A.first ≤ℤ i) → b && le_z i (last A) ≡ defined (cond b (map (element_value α) found) none)
    go true h =
        T-iff (le_z i (last A)) (defined found)
        (λ t. <length→defined A.elements (nat_abs (i -ℤ A.first)) (≤last→< A (h tt) (le_z_yes t)))
        (λ t. (<→≤last A (h tt) (defined→<length A.elements (nat_abs (i -ℤ A.first)) t)).le)
        ∙ sym (defined-map (element_value α) found)
    go false h = refl

-- An index that has an element is left as it is.
clamped-defined : (α : Assignment) (A : Array) (i : ℤ) {z : ℤ} → element_at α A i ≡ some z → clamped_to A i ≡ i
unfolding defined
clamped-defined α A i e =
    let t : T (le_z A.first i && le_z i (last A)) = rw (inside-defined α A i, e) tt in
    clamped-inside A (le_z_yes (&&-fst (le_z A.first i) (le_z i (last A)) t)) (le_z_yes (&&-snd (le_z A.first i) (le_z i (last A)) t))

module _ (α : Assignment) (A : Array) {x : ℤ} where
  -- (Di ∧ (l ≤ Vi)) ∧ (Vi ≤ u): where the element of an index is defined.
  pub defined-element : (v : Option ℤ) → Agrees x v → (defined v && le_z A.first x) && le_z x (last A) ≡ defined (bind v (element_at α A))
  unfolding defined bind
  defined-element none h = refl
  defined-element (some i) h = rw (h i refl) (inside-defined α A i)

  -- There the clamped index is the index.
  pub agrees-element : {z : ℤ} (v : Option ℤ) → Agrees x v → element_at α A (clamped_to A x) ≡ some z → Agrees z (bind v (element_at α A))
  unfolding bind
  agrees-element none h e z' e' = cc
  agrees-element (some i) h e z' e' =
      let q = h i refl in
      let c : clamped_to A i ≡ i = clamped-defined α A i e' in
      cc

module _ (Γ : Declarations) (α : Assignment) {σ : Setting} (fits : Fits Γ α σ) where
  -- An element lies in its interval.
  element_within : (t : Sort) (e : Element) → ElementFits Γ t e → Within (element_interval Γ e) (element_value α e)
  unfolding element_interval element_value
  element_within t (fixed z) f = within-only z
  element_within t (of_variable v) f = fits.variables v f.declared

  -- A hull that goes on keeps what it holds.
  hull_with-keeps : (es : List Element) {i : Interval} {z : ℤ} → Within i z → Within (hull_with Γ i es) z
  unfolding hull_with
  hull_with-keeps [] w = w
  hull_with-keeps (e ∷ es) w = hull_with-keeps es (within-hullˡ (element_interval Γ e) w)

  -- The element of each number below the length is found, and lies in the hull of all.
  hull_with-holds : (t : Sort) (es : List Element) → All (ElementFits Γ t) es → (n : ℕ) → n < length es → (i : Interval) →
      (e : Element) × (get_elem? es n ≡ some e) × Within (hull_with Γ i es) (element_value α e)
  unfolding hull_with
  hull_with-holds t [] f n h i = absurd (omega arith)
  hull_with-holds t (e ∷ es) f zero h i = (e, refl, hull_with-keeps es (within-hullʳ i (element_within t e f.0)))
  hull_with-holds t (e ∷ es) f (suc n) h i = hull_with-holds t es f.1 n (omega arith) (hull i (element_interval Γ e))

  -- The same for the hull of all elements.
  elements-hold : (t : Sort) (es : List Element) → All (ElementFits Γ t) es → (n : ℕ) → n < length es →
      (e : Element) × (get_elem? es n ≡ some e) × Within (elements_interval Γ es) (element_value α e)
  unfolding elements_interval
  elements-hold t [] f n h = absurd (omega arith)
  elements-hold t (e ∷ es) f zero h = (e, refl, hull_with-keeps es (element_within t e f.0))
  elements-hold t (e ∷ es) f (suc n) h = hull_with-holds t es f.1 n (omega arith) (element_interval Γ e)

  -- So an index between the ends finds a number of the array's interval.
  pub lookup-within : (A : Array) → ArrayFits Γ A → {i : ℤ} → A.first ≤ℤ i → i ≤ℤ last A →
      (z : ℤ) × (element_at α A i ≡ some z) × Within (elements_interval Γ A.elements) z
  lookup-within A f {i} h k =
      let r = elements-hold A.sort A.elements f.typed (nat_abs (i -ℤ A.first)) (≤last→< A h k) in
      (element_value α r.0, element_at-first α A h ∙ ap (map (element_value α)) r.1, r.2)

-- ---- the array of a number

-- What holds of all elements of a list holds of each.
All-at : {X : Type 0} (P : X → Type 0) (xs : List X) → All P xs → (n : ℕ) → n < length xs → (d : X) → P (get_or xs n d)
All-at P [] f n h d = absurd (omega arith)
All-at P (x ∷ xs) f zero h d = f.0
All-at P (x ∷ xs) f (suc n) h d = All-at P xs f.1 n (omega arith) d

-- A declared array is as the check leaves it.
pub array-fits : {Γ : Declarations} → Declared Γ → (A : ℕ) → A < length Γ.arrays → ArrayFits Γ (array_at Γ A)
unfolding array_at
array-fits {Γ} declared A h = All-at (ArrayFits Γ) Γ.arrays declared.arrays A h no_array

-- An array's first index is within the limit.
pub first-limit : {Γ : Declarations} {A : Array} → ArrayFits Γ A → T (within_limit A.first)
unfolding within_limit
first-limit {A = A} f = le→leb (nat_abs A.first) limit (omega (arith, f.near))

-- So is its last index.
pub last-limit : {Γ : Declarations} {A : Array} → ArrayFits Γ A → T (within_limit (last A))
unfolding within_limit last
last-limit {A = A} f =
    let n = nat_abs A.first + length A.elements in
    le→leb (nat_abs (last A)) limit
    (le_trans (nat_abs-between (last A) {m = n} (first-≤-last A f.some_element) (end A) (omega arith) (omega arith)) (omega (arith, f.near, f.few)))
  where
    end : (A : Array) → last A ≤ℤ pos (nat_abs A.first + length A.elements)
    end A = parts→≤ (pred_ℤ (A.first +ℤ pos (length A.elements))) (pos (nat_abs A.first + length A.elements))
        (omega (arith, +-parts A.first (pos (length A.elements)), pred_parts (A.first +ℤ pos (length A.elements)), nat_abs-parts A.first))
