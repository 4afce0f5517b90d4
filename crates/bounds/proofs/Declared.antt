-- The intervals of what a table declares, read from its records.
use mathlib.Core.Path.{◌≡◌, refl, sym, ap, ◌∙◌}
use Prim.Native.Nat.{ℕ, suc, ◌+◌, ◌≤◌, ◌<◌}
use native.Mathlib.Omega.{arith}
use mathlib.Core.List.{List, [], ◌∷◌, ◌++◌}
use borrow.Author.Tests.{eq-eqb, ne_eqb}
use lib.IntN.{ℤ, pos, nat_abs}
use lib.ListN.{length, get_or}
use mathlib.Core.Logic.{⊎_elim}
use Rattle.numbers.proofs.Naturals.{lt_or_ge}
use mir.Syntax.{w32}
use mir.Val.{of_z, to_z}
use Rattle.table.specs.declared.Record.{Record}
use Rattle.table.specs.Parts.{parts_of}
use Rattle.table.proofs.Parts.{x-read, y-read}
use Rattle.language.specs.Syntax.{Element, Slot, Declarations}
use Rattle.language.specs.Meaning.{slot_at, no_slot, array_at, no_array}
use Rattle.rules.specs.Bounds.{Interval, ◌to◌, hull, only, variable_interval, no_variable, element_interval, hull_with, elements_interval}
use Rattle.table.specs.Records.{record_count, kind_at, x_at, y_at}
use Rattle.answers.specs.Sections.{listed, declarations, variables_at, slots_at, variable_count, slot_count, variable_of, slot_of, element_of, array_of, array_records, arrays_at, nodes_at, behind_array}
use Rattle.answers.proofs.Listed.{length-listed}
use Rattle.answers.proofs.Declared.{variable_at-declarations, variable_at-past, slot_at-declarations, slot_at-past, array_at-declarations, array_at-past}
use Rattle.layout.specs.Passed.{Passed}
use Rattle.layout.proofs.Order.{behind-≤}
use Rattle.bounds.specs.Kept.{Hulls}
use Rattle.intervals.specs.Spans.{interval_of}
use Rattle.intervals.specs.declared.Interval as Declared
use Rattle.numbers.proofs.Lists.{Filled}

-- an interval as the code holds it, and 0..0
abbrev pub held : Interval → Declared.Interval
held i = record { low = i.low; high = i.high }

abbrev pub nothing : Declared.Interval
nothing = held (pos 0 to pos 0)

pub slot-cong : {a b c d : ℤ} → a ≡ c → b ≡ d → ◌≡◌ {A = Slot} (record { low = a; high = b }) (record { low = c; high = d })
slot-cong p q = cc

pub hull-cong : {i j k l : Interval} → i ≡ k → j ≡ l → hull i j ≡ hull k l
hull-cong p q = cc

-- The fields of a record as the code has read them.
module _ (bs : List ℕ) (k : ℕ) {r : Record} (e : r ≡ parts_of bs k) where
  pub x-field : to_z w32 (of_z w32 r.x) ≡ x_at bs k
  x-field = ap (λ (r : Record). to_z w32 (of_z w32 r.x)) e ∙ x-read bs k

  pub y-field : to_z w32 (of_z w32 r.y) ≡ y_at bs k
  y-field = ap (λ (r : Record). to_z w32 (of_z w32 r.y)) e ∙ y-read bs k

  pub kind-field : r.kind ≡ kind_at bs k
  kind-field = ap (λ (r : Record). r.kind) e

  pub x-names : {n : ℕ} → n ≡ nat_abs r.x → n ≡ nat_abs (x_at bs k)
  x-names f = f ∙ ap (λ (r : Record). nat_abs r.x) e

  pub y-names : {n : ℕ} → n ≡ nat_abs r.y → n ≡ nat_abs (y_at bs k)
  y-names f = f ∙ ap (λ (r : Record). nat_abs r.y) e

module _ (bs : List ℕ) where
  pub domain_of : (v : ℕ) {p : ℕ} → v < variable_count bs → p ≡ variables_at bs + v → (x_at bs p to y_at bs p) ≡ variable_interval (declarations bs) v
  unfolding variable_interval variable_of
  domain_of v h e = rw (e, variable_at-declarations bs v h)

  pub no-domain : (v : ℕ) → variable_count bs ≤ v → (pos 0 to pos 0) ≡ variable_interval (declarations bs) v
  unfolding variable_interval no_variable
  no-domain v h = rw (variable_at-past bs v h)

  pub slot-of : (s : ℕ) {p : ℕ} → s < slot_count bs → p ≡ slots_at bs + s → record { low = x_at bs p; high = y_at bs p } ≡ slot_at (declarations bs) s
  unfolding slot_of
  slot-of s h e = rw (e, slot_at-declarations bs s h)

  pub no-slot : (s : ℕ) → slot_count bs ≤ s → record { low = pos 1; high = pos 0 } ≡ slot_at (declarations bs) s
  unfolding no_slot
  no-slot s h = rw (slot_at-past bs s h)

  pub constant-element : (Γ : Declarations) (p : ℕ) → kind_at bs p ≡ 0 → only (x_at bs p) ≡ element_interval Γ (element_of bs p)
  unfolding element_of element_interval
  constant-element Γ p e = rw (eq-eqb (kind_at bs p) 0 e)

  pub variable-element : (Γ : Declarations) (p : ℕ) → (kind_at bs p ≡ 0 → ⊥) → variable_interval Γ (nat_abs (x_at bs p)) ≡ element_interval Γ (element_of bs p)
  unfolding element_of element_interval
  variable-element Γ p e = rw (ne_eqb (kind_at bs p) 0 e)

-- ---- hulls

module _ (Γ : Declarations) where
  hull_with-snoc : (i : Interval) (es : List Element) (e : Element) → hull_with Γ i (es ++ (e ∷ [])) ≡ hull (hull_with Γ i es) (element_interval Γ e)
  unfolding hull_with
  hull_with-snoc i [] e = refl
  hull_with-snoc i (x ∷ es) e = hull_with-snoc (hull i (element_interval Γ x)) es e

  elements-snoc : (es : List Element) (e : Element) → 1 ≤ length es → elements_interval Γ (es ++ (e ∷ [])) ≡ hull (elements_interval Γ es) (element_interval Γ e)
  unfolding elements_interval
  elements-snoc [] e h = absurd (omega arith)
  elements-snoc (x ∷ es) e h = hull_with-snoc (element_interval Γ x) es e

  -- The hull of no element, of one, and of one more.
  pub elements-none : (f : ℕ → Element) → (pos 0 to pos 0) ≡ elements_interval Γ (listed 0 f)
  unfolding elements_interval listed only
  elements-none f = refl

  pub elements-one : (f : ℕ → Element) → element_interval Γ (f 0) ≡ elements_interval Γ (listed 1 f)
  unfolding elements_interval listed hull_with
  elements-one f = refl

  pub elements-more : (f : ℕ → Element) (n : ℕ) → 1 ≤ n → hull (elements_interval Γ (listed n f)) (element_interval Γ (f n)) ≡ elements_interval Γ (listed (suc n) f)
  unfolding listed
  elements-more f n h = sym (elements-snoc (listed n f) (f n) (omega (arith, length-listed n f)))

-- ---- arrays by their numbers

module _ (bs : List ℕ) where
  pub array-elements : (a : ℕ) {q : ℕ} → a < length (array_records bs) → q ≡ get_or (array_records bs) a 0 → elements_interval (declarations bs) (array_of bs q).elements ≡ elements_interval (declarations bs) (array_at (declarations bs) a).elements
  array-elements a h e = rw (e, array_at-declarations bs a h)

  no-array-elements : (a : ℕ) → length (array_records bs) ≤ a → elements_interval (declarations bs) (array_at (declarations bs) a).elements ≡ (pos 0 to pos 0)
  unfolding elements_interval no_array only
  no-array-elements a h = rw (array_at-past bs a h)

  pub behind-inside : Passed bs → (a : ℕ) {q : ℕ} → a < length (array_records bs) → q ≡ get_or (array_records bs) a 0 → behind_array bs q ≤ record_count bs
  unfolding array_records nodes_at
  behind-inside w a h e = rw e (omega (arith, behind-≤ bs (record_count bs) (arrays_at bs) a h, w.inside))

  pub hulls_of : {is : List Declared.Interval} {size a : ℕ} → Filled nothing size (λ k. held (elements_interval (declarations bs) (array_at (declarations bs) k).elements)) is a → length (array_records bs) ≤ a → Hulls (declarations bs) is
  hulls_of {a = a} w all =
      record {
        same = λ k. ⊎_elim (λ m. ap interval_of (w.before k m)) (λ m. ap interval_of (w.after k m) ∙ sym (no-array-elements k (omega arith))) (lt_or_ge k a);
      }
