-- Whether a VR, SL or AR record has a fault depends on its bytes and its number alone, and what it declares on its bytes.
use mathlib.Core.Path.{◌≡◌}
use Prim.Native.Nat.{ℕ}
use mathlib.Core.List.{List}
use Rattle.table.proofs.Alike.{Alike, kind_at-alike, aux_at-alike, x_at-alike, y_at-alike}
use Rattle.answers.specs.Sections.{variable_of, slot_of, element_of}
use Rattle.answers.specs.Check.{domain_allowed, variable_fault, slot_fault, array_fault}

module _ {bs cs : List ℕ} {k l : ℕ} (a : Alike bs k cs l) where
  -- What is declared: a variable,
  pub variable_of-alike : variable_of bs k ≡ variable_of cs l
  unfolding variable_of
  variable_of-alike = rw (kind_at-alike a, x_at-alike a, y_at-alike a)

  -- a slot,
  pub slot_of-alike : slot_of bs k ≡ slot_of cs l
  unfolding slot_of
  slot_of-alike = rw (x_at-alike a, y_at-alike a)

  -- an element.
  pub element_of-alike : element_of bs k ≡ element_of cs l
  unfolding element_of
  element_of-alike = rw (kind_at-alike a, x_at-alike a)

  -- The fault of a variable,
  pub variable_fault-alike : (i : ℕ) → variable_fault bs i k ≡ variable_fault cs i l
  unfolding variable_fault domain_allowed
  variable_fault-alike i = rw (kind_at-alike a, aux_at-alike a, x_at-alike a, y_at-alike a)

  -- of a slot,
  pub slot_fault-alike : (i : ℕ) → slot_fault bs i k ≡ slot_fault cs i l
  unfolding slot_fault
  slot_fault-alike i = rw (kind_at-alike a, aux_at-alike a, x_at-alike a, y_at-alike a, slot_of-alike)

  -- of an array.
  pub array_fault-alike : (j : ℕ) → array_fault bs j k ≡ array_fault cs j l
  unfolding array_fault
  array_fault-alike j = rw (kind_at-alike a, aux_at-alike a, x_at-alike a, y_at-alike a)
