-- The table of kinds is right: where a record's fields name what their kind asks for, its row fits; and a kind yields what its row yields.
use mathlib.Core.Path.{◌≡◌, refl}
use Prim.Native.Nat.{ℕ}
use mathlib.Core.List.{List}
use mathlib.Core.Option.{Option, none, some}
use lib.Dec.{T}
use lib.IntN.{ℤ, pos, nat_abs}
use lib.Signed.{non_neg}
use Rattle.language.specs.Syntax.{Declarations}
use Rattle.language.specs.Tables.{Row}
use Rattle.rules.specs.Soundness.{All, IsVariable, IsSlot, IsArray, IsNode, RowFits, sort_of}
use Rattle.rules.proofs.Every.{All-get_d, ◌⸴◌}
use Rattle.table.specs.Kinds.{Field, unused, any_number, truth_value, variable_number, slot_number, array_number, node_number, Kind, kinds, kind_of}
use Rattle.answers.specs.Check.{is_bit}

-- a number that is not negative and names what P says: "a negative number names nothing"
abbrev pub Naming : (ℕ → Type 0) → ℤ → Type 0
Naming P z = T (non_neg z) × P (nat_abs z)

-- a field's number is allowed, and names something of the right type
abbrev pub FieldFits : Declarations → List Row → Field → ℤ → Type 0
FieldFits Γ before unused z = z ≡ pos 0
FieldFits Γ before any_number z = Unit {0}
FieldFits Γ before truth_value z = T (is_bit z)
FieldFits Γ before (variable_number t) z = Naming (IsVariable Γ t) z
FieldFits Γ before slot_number z = Naming (IsSlot Γ) z
FieldFits Γ before (array_number t) z = Naming (IsArray Γ t) z
FieldFits Γ before (node_number t) z = Naming (IsNode before t) z

pub record KindFits (k : Kind) : Type 0 where
  pub fits : (Γ : Declarations) (before : List Row) (x y : ℤ) → FieldFits Γ before k.field_x x → FieldFits Γ before k.field_y y
      → RowFits Γ before (k.row x y)
  pub yields_its_sort : (x y : ℤ) → sort_of (k.row x y) ≡ k.yields

-- an entry of the table
abbrev EntryFits : Option Kind → Type 0
EntryFits none = Unit {0}
EntryFits (some k) = KindFits k

-- Every entry of the table of kinds is right.
kinds-fit : All EntryFits kinds
unfolding kinds sort_of
kinds-fit =
    tt  -- 0
    ⸴ record { fits = λ Γ r x y a b. tt; yields_its_sort = λ x y. refl }  -- 1
    ⸴ record { fits = λ Γ r x y a b. tt; yields_its_sort = λ x y. refl }  -- 2
    ⸴ record { fits = λ Γ r x y a b. a.1; yields_its_sort = λ x y. refl }  -- 3
    ⸴ record { fits = λ Γ r x y a b. a.1; yields_its_sort = λ x y. refl }  -- 4
    ⸴ record { fits = λ Γ r x y a b. a.1; yields_its_sort = λ x y. refl }  -- 5
    ⸴ record { fits = λ Γ r x y a b. (a.1, b.1); yields_its_sort = λ x y. refl }  -- 6
    ⸴ record { fits = λ Γ r x y a b. (a.1, b.1); yields_its_sort = λ x y. refl }  -- 7
    ⸴ record { fits = λ Γ r x y a b. (a.1, b.1); yields_its_sort = λ x y. refl }  -- 8
    ⸴ record { fits = λ Γ r x y a b. (a.1, b.1); yields_its_sort = λ x y. refl }  -- 9
    ⸴ record { fits = λ Γ r x y a b. (a.1, b.1); yields_its_sort = λ x y. refl }  -- 10
    ⸴ record { fits = λ Γ r x y a b. a.1; yields_its_sort = λ x y. refl }  -- 11
    ⸴ record { fits = λ Γ r x y a b. (a.1, b.1); yields_its_sort = λ x y. refl }  -- 12
    ⸴ record { fits = λ Γ r x y a b. (a.1, b.1); yields_its_sort = λ x y. refl }  -- 13
    ⸴ record { fits = λ Γ r x y a b. a.1; yields_its_sort = λ x y. refl }  -- 14
    ⸴ record { fits = λ Γ r x y a b. (a.1, b.1); yields_its_sort = λ x y. refl }  -- 15
    ⸴ record { fits = λ Γ r x y a b. (a.1, b.1); yields_its_sort = λ x y. refl }  -- 16
    ⸴ record { fits = λ Γ r x y a b. (a.1, b.1); yields_its_sort = λ x y. refl }  -- 17
    ⸴ tt  -- 18
    ⸴ tt  -- 19
    ⸴ record { fits = λ Γ r x y a b. (a.1, b.1); yields_its_sort = λ x y. refl }  -- 20
    ⸴ record { fits = λ Γ r x y a b. (a.1, b.1); yields_its_sort = λ x y. refl }  -- 21
    ⸴ record { fits = λ Γ r x y a b. (a.1, b.1); yields_its_sort = λ x y. refl }  -- 22
    ⸴ record { fits = λ Γ r x y a b. (a.1, b.1); yields_its_sort = λ x y. refl }  -- 23
    ⸴ record { fits = λ Γ r x y a b. a.1; yields_its_sort = λ x y. refl }  -- 24
    ⸴ record { fits = λ Γ r x y a b. (a.1, b.1); yields_its_sort = λ x y. refl }  -- 25
    ⸴ record { fits = λ Γ r x y a b. (a.1, b.1); yields_its_sort = λ x y. refl }  -- 26
    ⸴ record { fits = λ Γ r x y a b. (a.1, b.1); yields_its_sort = λ x y. refl }  -- 27
    ⸴ record { fits = λ Γ r x y a b. (a.1, b.1); yields_its_sort = λ x y. refl }  -- 28
    ⸴ record { fits = λ Γ r x y a b. (a.1, b.1); yields_its_sort = λ x y. refl }  -- 29
    ⸴ record { fits = λ Γ r x y a b. (a.1, b.1); yields_its_sort = λ x y. refl }  -- 30
    ⸴ tt

-- So a kind that exists is right.
pub kind_of-fits : (n : ℕ) (k : Kind) → kind_of n ≡ some k → KindFits k
unfolding kind_of
kind_of-fits n k e = rw e at (All-get_d EntryFits kinds none kinds-fit tt n)
