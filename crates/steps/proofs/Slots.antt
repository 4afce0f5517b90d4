-- How many values a slot has, as the code counts them.
use mathlib.Core.Path.{◌≡◌, ◌∙◌}
use mathlib.Core.Logic.{⊎_elim}
use mathlib.Core.List.{List}
use mathlib.Core.Option.{none}
use Prim.Native.Nat.{ℕ, ◌+◌, ◌≤◌, ◌<◌}
use native.Mathlib.Omega.{arith}
use lib.Dec.{leb→le}
use Rattle.numbers.specs.Limits.{most_slot_values}
use Rattle.numbers.proofs.Naturals.{lt_or_ge}
use Rattle.numbers.proofs.Tests.{&&-fst, &&-snd}
use Rattle.language.specs.Meaning.{no_slot, slot_at, count}
use Rattle.table.specs.declared.Record.{Record}
use Rattle.table.specs.Parts.{parts_of}
use Rattle.answers.specs.Sections.{slots_at, slot_count, slot_of, declarations}
use Rattle.answers.specs.Check.{slot_fault, check_fault}
use Rattle.answers.proofs.Faults.{none-unless}
use Rattle.answers.proofs.Passed.{check_fault≡none→Passed}
use Rattle.answers.proofs.Declared.{slot_at-declarations, slot_at-past}

module _ (bs : List ℕ) where
  pub slot-values : (s : ℕ) {p n : ℕ} {r : Record} → s < slot_count bs → p ≡ slots_at bs + s → r ≡ parts_of bs p → n ≡ count (record { low = r.x; high = r.y }) →
      n ≡ count (slot_at (declarations bs) s)
  unfolding slot_of
  slot-values s h e f q = q ∙ rw (f, e, slot_at-declarations bs s h)

  pub no-slot : (s : ℕ) → slot_count bs ≤ s → 0 ≡ count (slot_at (declarations bs) s)
  unfolding count no_slot
  no-slot s h = rw (slot_at-past bs s h)

  slot_fault→few-values : (i p : ℕ) → slot_fault bs i p ≡ none → count (slot_of bs p) ≤ most_slot_values
  unfolding slot_fault
  slot_fault→few-values i p e = let passed = none-unless 3 _ e in leb→le (count (slot_of bs p)) most_slot_values (search (&&-fst, &&-snd))

  -- "at most 10,000 values"
  pub few_values : check_fault bs ≡ none → (s : ℕ) → count (slot_at (declarations bs) s) ≤ most_slot_values
  few_values e s =
      ⊎_elim
      (λ h. rw (slot_at-declarations bs s h) (slot_fault→few-values s (slots_at bs + s) ((check_fault≡none→Passed bs e).slots_passed s h)))
      (λ h. omega (arith, no-slot s h))
      (lt_or_ge s (slot_count bs))
