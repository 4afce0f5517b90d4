-- Demand 3 for the rules' table: it is total and has the same solutions.
use mathlib.Core.Path.{◌≡◌}
use Prim.Native.Nat.{ℕ}
use mathlib.Core.List.{List}
use mathlib.Core.Option.{none}
use lib.Dec.{T, eqb, eqb_refl}
use lib.IntN.{ℤ, pos}
use lib.ListN.{length}
use lib.Signed.{le_z}
use Rattle.numbers.specs.Whole.{between}
use Rattle.numbers.proofs.Tests.{&&-intro, T→≡true}
use Rattle.language.specs.Syntax.{constant, Declarations}
use Rattle.language.specs.Readings.{Reading}
use Rattle.language.specs.Tables.{Tree, whole, trees}
use Rattle.language.specs.Meaning.{Assignment, value_of}
use Rattle.rules.specs.Bounds.{Interval, variable_interval}
use Rattle.rules.specs.TotalRows.{new_rows, HasValue}
use Rattle.rules.specs.Soundness.{Within, Fits, All}
use Rattle.rules.proofs.TotalRows.{rows-total}
use Rattle.rules.proofs.Every.{All-map}
use Rattle.rules.proofs.LowEnds.{low_setting, low_setting-within}
use Rattle.answers.specs.Sections.{variables_at, declarations, rows, node_trees}
use Rattle.answers.specs.Answers.{assignment_fault, translated, translation}
use Rattle.answers.proofs.TotalBytes as Bytes
use Rattle.answers.proofs.Faults.{unless-none, first_fault-none}
use Rattle.answers.proofs.Listed.{All-at, All-lookup}
use Rattle.answers.proofs.NewPassed.{check_fault-new}
use Rattle.answers.proofs.NewTable.{declarations-new, rows_new}
use Rattle.answers.proofs.Translatable.{Translatable}
use Rattle.demands.specs.Demands.{constraint_at, WithinDomains, SameSolutions, TotalTable}
use Rattle.demands.proofs.EveryNode.{Valued, valued→stays, HasValue-free, StaysWithin-free}
use Rattle.demands.proofs.Verdicts.{is_true-exactly}

-- A number that lies in an interval passes the test of its ends.
Within→between : (i : Interval) (z : ℤ) → Within i z → T (between i.low i.high z)
unfolding between
Within→between i z w = &&-intro (le_z i.low z) (le_z z i.high) w.above.le w.below.le

module _ (table : List ℕ) (α : Assignment) (within : WithinDomains (declarations table) α) where
  -- Evaluation takes an assignment within the domains.
  WithinDomains→none : assignment_fault table α ≡ none
  unfolding assignment_fault variable_interval
  WithinDomains→none =
      rw (within.one_per_variable, T→≡true (eqb (length (declarations table).variables) (length (declarations table).variables)) (eqb_refl (length (declarations table).variables)))
      (first_fault-none _ (variables_at table) (length (declarations table).variables)
      (λ v l. unless-none 10 _ (Within→between (variable_interval (declarations table) v) (value_of α v) (within.in_domain v l))))

  -- It fits, whatever setting of the slots fits.
  WithinDomains→Fits : Fits (declarations table) α (low_setting (declarations table))
  WithinDomains→Fits = record { variables = within.in_domain; slots = low_setting-within (declarations table) }

module _ (table : List ℕ) (ρ : Reading) (h : Translatable table ρ) where
  abbrev Γ : Declarations
  Γ = declarations table

  -- Every node of the rules' table has a value at every setting that fits.
  new-valued : (ρ' : Reading) (α : Assignment) → All (Valued ρ' Γ α) (trees (new_rows ρ Γ (rows table)))
  unfolding node_trees
  new-valued ρ' α =
      All-at (Valued ρ' Γ α) (trees (new_rows ρ Γ (rows table))) nothing
      (λ k l σ fits. All-lookup (HasValue ρ' Γ α σ) (trees (new_rows ρ Γ (rows table))) nothing
      (rows-total ρ Γ (rows table) h.passed.well_formed h.bounded α σ fits ρ').values k l)
    where
      nothing : Tree
      nothing = whole (constant (pos 0))

  new-solutions : (α : Assignment) → WithinDomains Γ α → (ρ' : Reading) → SameSolutions table ρ (translation table ρ) ρ' α
  unfolding translated node_trees constraint_at
  new-solutions α within ρ' =
      let met = Bytes.bytes-total table ρ h ρ' α (WithinDomains→none table α within) in
      let fits : Fits Γ α (low_setting Γ) = WithinDomains→Fits table α within in
      let valued : All (Valued ρ' Γ α) (trees (new_rows ρ Γ (rows table))) = new-valued ρ' α in
      record {
        every_node = rw (declarations-new table ρ h, rows_new table ρ h) (All-map (HasValue-free ρ' Γ α fits) (trees (new_rows ρ Γ (rows table))) valued);
        every_number = rw (declarations-new table ρ h, rows_new table ρ h)
            (All-map (StaysWithin-free ρ' Γ α fits) (trees (new_rows ρ Γ (rows table))) (valued→stays ρ' Γ α (new_rows ρ Γ (rows table)) valued));
        as_many = met.as_many;
        same_place = λ i l. is_true-exactly _ _ (met.told i l);
      }

  -- The rules' table is total.
  pub translation-total : TotalTable table ρ (translation table ρ)
  translation-total = record { sound = check_fault-new table ρ h; same_declarations = declarations-new table ρ h; solutions = new-solutions }
