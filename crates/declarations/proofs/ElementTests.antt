-- The tests of the code on an element are those of document 01.
use mathlib.Core.Path.{◌≡◌, refl, ap, ◌∙◌}
use mathlib.Core.Bool.{Bool, true, false, cond, ◌&&◌}
use mathlib.Core.List.{List}
use mathlib.Core.Option.{none, some, or_else}
use Prim.Native.Nat.{ℕ, ◌+◌}
use borrow.Author.Tests.{eq-eqb, ne_eqb}
use denote.Enum.Bare.{sameb}
use lib.Dec.{eqb}
use lib.IntN.{nat_abs}
use Rattle.numbers.proofs.Tests.{T→≡true}
use Rattle.language.specs.Syntax.{boolean, integer}
use Rattle.table.specs.Records.{EL, marked, kind_at, x_at}
use Rattle.table.specs.Parts.{parts_of}
use Rattle.table.specs.declared.Record.{Record}
use Rattle.kinds.specs.contracts.Sort.{the_type}
use Rattle.kinds.specs.declared.Sort.{Sort}
use Rattle.kinds.specs.declared.Sort.TheVariants.{Boolean, Integer}
use Rattle.kinds.specs.Entries.{declared_sort, type_of}
use Rattle.answers.specs.Sections.{sort_of_kind, variables_at, variable_count}
use Rattle.answers.specs.Check.{unless, is_zero, is_kind, names, same_sort, variable_sort, constant_allowed, element_fault}
use Rattle.answers.proofs.Faults.{none-or_else, none-unless}

module _ (bs : List ℕ) (t : Sort) (p : ℕ) where
  pub element_misplaced : marked bs EL p ≡ false → element_fault bs (type_of t) p ≡ some 2
  unfolding element_fault unless or_else
  element_misplaced m = rw m

  -- no fault: it has the mark
  pub element_marked : element_fault bs (type_of t) p ≡ none → marked bs EL p ≡ true
  unfolding element_fault
  element_marked e = T→≡true (marked bs EL p) (none-unless 2 _ (none-or_else _ _ e).0)

-- two types compared
pub sorts_compared : (a b : Sort) → sameb the_type a b ≡ same_sort (type_of a) (type_of b)
unfolding same_sort
sorts_compared Boolean Boolean = refl
sorts_compared Boolean Integer = refl
sorts_compared Integer Boolean = refl
sorts_compared Integer Integer = refl

-- the type of a declared thing
pub type-declared : (k : ℕ) → type_of (declared_sort k) ≡ sort_of_kind k
unfolding sort_of_kind
type-declared k = go (eqb k 0)
  where
    go : (b : Bool) → type_of (cond b Boolean Integer) ≡ cond b boolean integer
    go true = refl
    go false = refl

module _ (bs : List ℕ) (t : Sort) (p : ℕ) {r : Record} (er : r ≡ parts_of bs p) (m : marked bs EL p ≡ true) where
  abbrev test : Record → Bool
  test q = is_kind q.kind && eqb q.aux 0 && is_zero q.y && constant_allowed (type_of t) q.kind q.x

  pub element_not_allowed : test r ≡ false → element_fault bs (type_of t) p ≡ some 3
  unfolding element_fault unless or_else
  element_not_allowed e = let f : test (parts_of bs p) ≡ false = rw er at e in rw (m, f)

  module _ (e : test r ≡ true) where
    allowed : test (parts_of bs p) ≡ true
    allowed = rw er at e

    pub element_constant : r.kind ≡ 0 → element_fault bs (type_of t) p ≡ none
    unfolding element_fault unless or_else
    element_constant z = let k : kind_at bs p ≡ 0 = rw er at z in rw (m, allowed, eq-eqb (kind_at bs p) 0 k)

    module _ {n : ℕ} (counted : n ≡ variable_count bs) (z : ¬ (r.kind ≡ 0)) where
      variable : eqb (kind_at bs p) 0 ≡ false
      variable = let k : ¬ (kind_at bs p ≡ 0) = rw er at z in ne_eqb (kind_at bs p) 0 k

      pub element_names_nothing : names n r.x ≡ false → element_fault bs (type_of t) p ≡ some 4
      unfolding element_fault unless or_else
      element_names_nothing h = let f : names (variable_count bs) (x_at bs p) ≡ false = rw (counted, er) at h in rw (m, allowed, variable, f)

      module _ (h : names n r.x ≡ true) {v : ℕ} (ev : v ≡ nat_abs r.x) {named : Sort} (ek : named ≡ declared_sort (kind_at bs (1 + v))) where
        names-one : names (variable_count bs) (x_at bs p) ≡ true
        names-one = rw (counted, er) at h

        named_is : type_of named ≡ variable_sort bs (x_at bs p)
        unfolding variable_sort variables_at
        named_is = ap type_of ek ∙ type-declared (kind_at bs (1 + v)) ∙ rw (ev, er)

        pub element_wrong_type : sameb the_type named t ≡ false → element_fault bs (type_of t) p ≡ some 5
        unfolding element_fault unless or_else
        element_wrong_type q = rw (m, allowed, variable, names-one, ← named_is, ← (sorts_compared named t), q)

        pub element_sound : sameb the_type named t ≡ true → element_fault bs (type_of t) p ≡ none
        unfolding element_fault unless or_else
        element_sound q = rw (m, allowed, variable, names-one, ← named_is, ← (sorts_compared named t), q)
