-- The values of an assignment, one variable after the other.
use mathlib.Core.Path.{◌≡◌, refl, sym, ap, ◌∙◌}
use Prim.Native.Nat.{ℕ, ◌+◌, ◌<◌}
use mathlib.Core.Bool.{Bool, true, false}
use mathlib.Core.List.{List}
use mathlib.Core.Option.{Option, none}
use borrow.Author.Tests.{eq-eqb, ne_eqb}
use lib.IntN.{ℤ, pos}
use lib.ListN.{length, get_or}
use Rattle.numbers.specs.Whole.{between}
use Rattle.language.specs.Meaning.{Assignment, value_of}
use Rattle.rules.specs.Bounds.{variable_at}
use Rattle.table.specs.Records.{x_at, y_at}
use Rattle.answers.specs.Sections.{variables_at, variable_count, variable_of, declarations}
use Rattle.answers.specs.Check.{refuse, unless, first_fault}
use Rattle.answers.specs.Answers.{assignment_fault}
use Rattle.answers.proofs.Declared.{length-variables, variable_at-declarations}
use Rattle.answers.proofs.Faults.{first_more, first-at}

module _ (bs : List ℕ) (α : Assignment) where
  -- the fault of one variable's value
  abbrev pub own_fault : ℕ → Option ℕ
  own_fault v = unless 10 (between (variable_at (declarations bs) v).low (variable_at (declarations bs) v).high (value_of α v))

  own-fault : (v : ℕ) {p : ℕ} {value : ℤ} {t : Bool} → v < variable_count bs → p ≡ variables_at bs + v → value ≡ get_or α v (pos 0)
      → t ≡ between (x_at bs p) (y_at bs p) value → own_fault v ≡ unless 10 t
  unfolding variable_of value_of
  own-fault v h e f q = rw (variable_at-declarations bs v h, q, e, f)

  pub wrong_length : (length α ≡ variable_count bs → ⊥) → refuse 10 0 ≡ assignment_fault bs α
  unfolding assignment_fault
  wrong_length n = rw (length-variables, ne_eqb (length α) (variable_count bs) n)

  -- none of the first v values is outside its domain
  abbrev pub Inside : ℕ → Type 0
  Inside v = first_fault own_fault (variables_at bs) v ≡ none

  pub inside-none : Inside 0
  unfolding first_fault
  inside-none = refl

  module _ (v : ℕ) {p : ℕ} {value : ℤ} {t : Bool} (before : Inside v) (h : v < variable_count bs) (e : p ≡ variables_at bs + v) (f : value ≡ get_or α v (pos 0))
      (q : t ≡ between (x_at bs p) (y_at bs p) value) where
    pub inside-more : t ≡ true → Inside (v + 1)
    unfolding unless
    inside-more g = first_more own_fault (variables_at bs) v before (own-fault v h e f q ∙ ap (unless 10) g)

    pub outside-at : t ≡ false → length α ≡ variable_count bs → refuse 10 p ≡ assignment_fault bs α
    unfolding unless assignment_fault
    outside-at g l = rw (length-variables, eq-eqb (length α) (variable_count bs) l, e) (sym (first-at own_fault (variables_at bs) v before (own-fault v h e f q ∙ ap (unless 10) g) h))

  pub inside-all : (v : ℕ) → Inside v → v ≡ variable_count bs → length α ≡ variable_count bs → none ≡ assignment_fault bs α
  unfolding assignment_fault
  inside-all v i e l = rw (length-variables, eq-eqb (length α) (variable_count bs) l, ← e) (sym i)
