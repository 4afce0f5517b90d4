-- The fields of a node record: the check finds no fault in a field exactly where its number is allowed and names something of the right type.
use mathlib.Core.Path.{◌≡◌, refl, sym, ap, ◌∙◌, subst}
use Prim.Native.Nat.{ℕ, ◌+◌, ◌<◌}
use mathlib.Core.List.{List}
use mathlib.Core.Option.{Option, none, some}
use lib.Dec.{T, ltb→lt, lt→ltb}
use lib.IntN.{ℤ, pos, nat_abs}
use lib.ListN.{length, get_or}
use lib.Signed.{non_neg}
use Rattle.numbers.proofs.Tests.{&&-intro, &&-fst, &&-snd}
use Rattle.numbers.proofs.Division.{eq_z→≡, eq_z-refl}
use Rattle.language.specs.Syntax.{Sort, boolean, integer}
use Rattle.language.specs.Tables.{Row}
use Rattle.language.specs.Meaning.{array_at}
use Rattle.rules.specs.Bounds.{variable_at}
use Rattle.rules.specs.Soundness.{sort_of}
use Rattle.table.specs.Records.{kind_at, x_at, y_at}
use Rattle.table.specs.Kinds.{Field, unused, any_number, truth_value, variable_number, slot_number, array_number, node_number, Kind, kind_of, row_in}
use Rattle.answers.specs.Sections.{listed, nodes_at, variable_count, slot_count, array_records, declarations, variable_of, array_of, row_of}
use Rattle.answers.specs.Check.{same_sort, is_zero, names, variable_sort, array_sort, node_sort, field_allowed, field_names, field_typed}
use Rattle.answers.proofs.Listed.{length-listed, get_d_listed}
use Rattle.answers.proofs.Declared.{length-variables, length-slots, length-arrays, variable_at-declarations, array_at-declarations}
use Rattle.answers.proofs.KindsFit.{FieldFits, kind_of-fits}

-- ---- small tests

-- Types that pass the test are the same,
pub same_sort→≡ : (s t : Sort) → T (same_sort s t) → s ≡ t
unfolding same_sort
same_sort→≡ boolean boolean h = refl
same_sort→≡ boolean integer h = absurd h
same_sort→≡ integer boolean h = absurd h
same_sort→≡ integer integer h = refl

-- The two types differ,
boolean≢integer : ¬ (boolean ≡ integer)
unfolding same_sort
boolean≢integer e = subst (λ s. T (same_sort boolean s)) e tt

-- and the same types pass it.
pub ≡→same_sort : (s t : Sort) → s ≡ t → T (same_sort s t)
unfolding same_sort
≡→same_sort boolean boolean e = tt
≡→same_sort boolean integer e = absurd (boolean≢integer e)
≡→same_sort integer boolean e = absurd (boolean≢integer (sym e))
≡→same_sort integer integer e = tt

-- A number that names one of n things is not negative and below n,
pub names→ : (n : ℕ) (z : ℤ) → T (names n z) → T (non_neg z) × (nat_abs z < n)
unfolding names
names→ n z t = (&&-fst (non_neg z) _ t, ltb→lt (nat_abs z) n (&&-snd (non_neg z) _ t))

-- and such a number names one.
pub →names : (n : ℕ) (z : ℤ) → T (non_neg z) → nat_abs z < n → T (names n z)
unfolding names
→names n z t h = &&-intro (non_neg z) _ t (lt→ltb (nat_abs z) n h)

module _ (bs : List ℕ) where
  -- ---- types

  -- A variable has the type that its record says.
  variable_at-sort : (z : ℤ) → nat_abs z < variable_count bs → (variable_at (declarations bs) (nat_abs z)).sort ≡ variable_sort bs z
  unfolding variable_sort variable_of
  variable_at-sort z h = ap (λ v. v.sort) (variable_at-declarations bs (nat_abs z) h)

  -- An array has the type that its record says.
  array_at-sort : (z : ℤ) → nat_abs z < length (array_records bs) → (array_at (declarations bs) (nat_abs z)).sort ≡ array_sort bs z
  unfolding array_sort array_of
  array_at-sort z h = ap (λ A. A.sort) (array_at-declarations bs (nat_abs z) h)

  -- A row yields what its record's kind says.
  sort_of-row_of : (p : ℕ) → sort_of (row_of bs p) ≡ elim (kind_of (kind_at bs p)) [ none ↦ boolean | some k ↦ k.yields ]
  unfolding row_of row_in sort_of
  sort_of-row_of p = go (kind_of (kind_at bs p)) refl
    where
      go : (o : Option Kind) → kind_of (kind_at bs p) ≡ o
          → sort_of (row_in o (x_at bs p) (y_at bs p)) ≡ elim o [ none ↦ boolean | some k ↦ k.yields ]
      go none e = refl
      go (some k) e = (kind_of-fits (kind_at bs p) k e).yields_its_sort (x_at bs p) (y_at bs p)

  -- the rows of the first n nodes
  abbrev pub rows_below : ℕ → List Row
  rows_below n = listed n (λ i. row_of bs (nodes_at bs + i))

  -- A node among the first n has the type that its record's kind says.
  sort_of-node_sort : (n : ℕ) (z : ℤ) (d : Row) → nat_abs z < n → sort_of (get_or (rows_below n) (nat_abs z) d) ≡ node_sort bs z
  unfolding node_sort
  sort_of-node_sort n z d h = ap sort_of (get_d_listed n _ d (nat_abs z) h) ∙ sort_of-row_of (nodes_at bs + nat_abs z)

  -- ---- fields

  -- A field without a fault fits,
  pub passed→FieldFits : (n : ℕ) (F : Field) (z : ℤ) → T (field_allowed F z) → T (field_names bs n F z) → T (field_typed bs F z)
      → FieldFits (declarations bs) (rows_below n) F z
  unfolding field_allowed field_names field_typed is_zero
  passed→FieldFits n unused z a b c = eq_z→≡ z (pos 0) a
  passed→FieldFits n any_number z a b c = tt
  passed→FieldFits n truth_value z a b c = a
  passed→FieldFits n (variable_number t) z a b c =
      let named = names→ (variable_count bs) z b in
      (named.0, record { declared = rw length-variables named.1; typed = variable_at-sort z named.1 ∙ same_sort→≡ _ t c })
  passed→FieldFits n slot_number z a b c = let named = names→ (slot_count bs) z b in (named.0, rw length-slots named.1)
  passed→FieldFits n (array_number t) z a b c =
      let named = names→ (length (array_records bs)) z b in
      (named.0, record { declared = rw length-arrays named.1; typed = array_at-sort z named.1 ∙ same_sort→≡ _ t c })
  passed→FieldFits n (node_number t) z a b c =
      let named = names→ n z b in
      (named.0, record { earlier = rw length-listed named.1; typed = sort_of-node_sort n z _ named.1 ∙ same_sort→≡ _ t c })

  -- and a field that fits has no fault.
  pub FieldFits→passed : (n : ℕ) (F : Field) (z : ℤ) → FieldFits (declarations bs) (rows_below n) F z
      → T (field_allowed F z) × T (field_names bs n F z) × T (field_typed bs F z)
  unfolding field_allowed field_names field_typed is_zero
  FieldFits→passed n unused z h = (rw h (eq_z-refl (pos 0)), tt, tt)
  FieldFits→passed n any_number z h = (tt, tt, tt)
  FieldFits→passed n truth_value z h = (h, tt, tt)
  FieldFits→passed n (variable_number t) z h =
      let l : nat_abs z < variable_count bs = rw length-variables at h.1.declared in
      (tt, →names (variable_count bs) z h.0 l, ≡→same_sort _ t (sym (variable_at-sort z l) ∙ h.1.typed))
  FieldFits→passed n slot_number z h = (tt, →names (slot_count bs) z h.0 (rw length-slots at h.1), tt)
  FieldFits→passed n (array_number t) z h =
      let l : nat_abs z < length (array_records bs) = rw length-arrays at h.1.declared in
      (tt, →names (length (array_records bs)) z h.0 l, ≡→same_sort _ t (sym (array_at-sort z l) ∙ h.1.typed))
  FieldFits→passed n (node_number t) z h =
      let l : nat_abs z < n = rw length-listed at h.1.earlier in
      (tt, →names n z h.0 l, ≡→same_sort _ t (sym (sort_of-node_sort n z _ l) ∙ h.1.typed))
