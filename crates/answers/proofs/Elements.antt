-- The elements of arrays: what the check's test of an EL record says, and that a variable among them is declared with the array's type.
use mathlib.Core.Path.{◌≡◌}
use Prim.Native.Nat.{ℕ}
use mathlib.Core.Bool.{Bool, true, false, not, ◌&&◌, ◌||◌}
use mathlib.Core.List.{List}
use mathlib.Core.Option.{none}
use lib.Dec.{T, eqb}
use Rattle.numbers.proofs.Tests.{cond_cases}
use Rattle.language.specs.Syntax.{Sort}
use Rattle.rules.specs.Soundness.{ElementFits}
use Rattle.table.specs.Records.{EL, marked, kind_at, aux_at, x_at, y_at}
use Rattle.table.specs.Kinds.{variable_number}
use Rattle.answers.specs.Sections.{variable_count, declarations, element_of}
use Rattle.answers.specs.Check.{names, is_kind, is_zero, same_sort, variable_sort, constant_allowed, element_fault, field_allowed, field_names, field_typed}
use Rattle.answers.proofs.Faults.{neither, none-or_else, unless-none, none-unless}
use Rattle.answers.proofs.Fields.{passed→FieldFits}

-- Of two tests one passes: if not the first, the second.
pub ||-otherwise : (a b : Bool) → T (a || b) → T (not a) → T b
||-otherwise true b t f = absurd f
||-otherwise false b t f = t

-- The EL record p of an array of type t has no fault.
pub record ElementPassed (bs : List ℕ) (t : Sort) (p : ℕ) : Type 0 where
  pub mark : T (marked bs EL p)
  pub allowed : T (is_kind (kind_at bs p) && eqb (aux_at bs p) 0 && is_zero (y_at bs p) && constant_allowed t (kind_at bs p) (x_at bs p))
  pub named : T (eqb (kind_at bs p) 0 || names (variable_count bs) (x_at bs p))
  pub typed : T (eqb (kind_at bs p) 0 || same_sort (variable_sort bs (x_at bs p)) t)

module _ (bs : List ℕ) (t : Sort) (p : ℕ) where
  -- An element without a fault has passed,
  pub none→ElementPassed : element_fault bs t p ≡ none → ElementPassed bs t p
  unfolding element_fault
  none→ElementPassed h =
      let first = none-or_else _ _ h in
      let second = none-or_else _ _ first.1 in
      let third = none-or_else _ _ second.1 in
      record {
        mark = none-unless 2 _ first.0;
        allowed = none-unless 3 _ second.0;
        named = none-unless 4 _ third.0;
        typed = none-unless 5 _ third.1;
      }

  -- and one that has passed has no fault.
  pub ElementPassed→none : ElementPassed bs t p → element_fault bs t p ≡ none
  unfolding element_fault
  ElementPassed→none h =
      neither (unless-none 2 _ h.mark)
      (neither (unless-none 3 _ h.allowed) (neither (unless-none 4 _ h.named) (unless-none 5 _ h.typed)))

  -- A variable that is an element is declared, with the array's type.
  pub ElementPassed→ElementFits : ElementPassed bs t p → ElementFits (declarations bs) t (element_of bs p)
  unfolding element_of field_allowed field_names field_typed
  ElementPassed→ElementFits h =
      let k : Bool = eqb (kind_at bs p) 0 in
      cond_cases (ElementFits (declarations bs) t) k (λ c. tt)
      (λ v. (passed→FieldFits bs 0 (variable_number t) (x_at bs p) tt (||-otherwise k _ h.named v) (||-otherwise k _ h.typed v)).1)
