-- The orders of refusals behind a choice: 7 where it is no reading; where it is one, the faults behind 7 under that reading.
use mathlib.Core.Path.{◌≡◌, refl}
use Prim.Native.Nat.{ℕ}
use mathlib.Core.Bool.{true, false}
use mathlib.Core.List.{List, ◌∷◌}
use mathlib.Core.Option.{Option, none, some, or_else}
use lib.Dec.{leb}
use lib.ListN.{length}
use Rattle.language.specs.Readings.{Reading}
use Rattle.language.specs.Meaning.{Assignment}
use Rattle.answers.specs.Sections.{constraints}
use Rattle.answers.specs.Check.{Refusal, refuse, first, check_fault}
use Rattle.answers.specs.Answers.{reading_of, is_reading, reading_chosen, refuse_unless, assignment_fault, total_cost, all_met_within, bounds_fault, room_fault, evaluate_order, translate_order}
use Rattle.answers.proofs.Faults.{or_else-none-right}

-- ---- no reading

module _ (choice : ℕ) (none-chosen : reading_of choice ≡ none) where
  is_reading-no : is_reading choice ≡ false
  unfolding is_reading
  is_reading-no = rw (is_reading, none-chosen) refl

  -- Behind 7 no fault counts.
  pub no-reading : (fs : List (Option Refusal)) → first (refuse_unless 7 (is_reading choice) ∷ fs) ≡ refuse 7 0
  unfolding first refuse_unless or_else
  no-reading fs = rw is_reading-no refl

-- ---- a reading

module _ (choice : ℕ) (ρ : Reading) (chosen : reading_of choice ≡ some ρ) where
  pub reading_chosen-is : reading_chosen choice ≡ ρ
  unfolding reading_chosen
  reading_chosen-is = rw (reading_chosen, chosen) refl

  is_reading-yes : is_reading choice ≡ true
  unfolding is_reading
  is_reading-yes = rw (is_reading, chosen) refl

  module _ (table : List ℕ) (room : ℕ) where
    pub translate-faults : first (translate_order choice table room) ≡ or_else (check_fault table) (or_else (bounds_fault table) (room_fault table ρ room))
    unfolding translate_order first refuse_unless or_else
    translate-faults = rw (is_reading-yes, reading_chosen-is, or_else-none-right (room_fault table ρ room)) refl

    pub evaluate-faults : (α : Assignment) (budget : ℕ) → first (evaluate_order choice table α budget room)
        ≡ or_else (check_fault table)
        (or_else (assignment_fault table α)
        (or_else (refuse_unless 9 (leb (length (constraints table)) room))
        (or_else (refuse_unless 11 (leb (total_cost table) budget)) (refuse_unless 8 (all_met_within table ρ α (constraints table))))))
    unfolding evaluate_order first refuse_unless or_else
    evaluate-faults α budget = rw (is_reading-yes, reading_chosen-is, or_else-none-right (refuse_unless 8 (all_met_within table ρ α (constraints table)))) refl
