-- Demand 3 on bytes: for every table that is translated, every reading ρ of the rules, every reading ρ' under which the new table is evaluated and
-- every assignment within the domains, the new table passes the check, takes the same assignment, meets no number beyond the limit, and its
-- i-th constraint is true exactly where the i-th constraint of the table is true under ρ, and false elsewhere.
use mathlib.Core.Path.{◌≡◌, ap, ◌∙◌}
use Prim.Native.Nat.{ℕ, ◌<◌}
use native.Mathlib.Omega.{arith}
use native.Mathlib.Decide.{dec_lt}
use mathlib.Core.Bool.{true, false, cond}
use mathlib.Core.List.{List, [], ◌∷◌, map}
use mathlib.Core.Option.{none, some}
use lib.Arith.{le→nltb}
use lib.Dec.{T, eqb, ltb}
use lib.IntN.{pos}
use lib.ListN.{length, get_or, length-map}
use lib.Signed.{le_z_yes}
use Rattle.numbers.specs.Whole.{between}
use Rattle.numbers.proofs.Tests.{&&-intro, &&-fst, &&-snd, T→≡true, Tnot→≡false}
use Rattle.language.specs.Syntax.{BExp, Declarations}
use Rattle.language.specs.Readings.{Reading}
use Rattle.language.specs.Tables.{Tree, free_b, tree_b, trees}
use Rattle.language.specs.Meaning.{Assignment, slot_at, value_b, met_within_b}
use Rattle.language.proofs.FreeSlots.{AgreeOn, in_b, value_b-agree, met_within_b-agree}
use Rattle.rules.specs.Bounds.{variable_interval}
use Rattle.rules.specs.TotalRows.{first_of, new_rows, is_true}
use Rattle.rules.specs.Soundness.{Fits, All}
use Rattle.rules.proofs.MetWithinCompanions.{within-P}
use Rattle.rules.proofs.TotalRows.{rows-total}
use Rattle.rules.proofs.LowEnds.{low_setting, low_setting-within}
use Rattle.answers.specs.Sections.{variables_at, declarations, rows, node_trees, constraints}
use Rattle.answers.specs.Check.{check_fault}
use Rattle.answers.specs.Answers.{unset, assignment_fault, value_of_constraint, all_met_within, translated, translation}
use Rattle.answers.proofs.Faults.{none-unless, none-cond-fault, none-first_fault}
use Rattle.answers.proofs.Listed.{All-at, All-mapped}
use Rattle.answers.proofs.Declared.{length-slots}
use Rattle.numbers.proofs.Lists.{get_d_map}
use Rattle.answers.proofs.NewConstraints.{constraint-node, constraint-free, P-free}
use Rattle.answers.proofs.NewPassed.{check_fault-new}
use Rattle.answers.proofs.NewTable.{declarations-new, rows_new, constraints-new}
use Rattle.answers.proofs.Translatable.{Translatable}

-- What is demanded of the translation of bs under ρ, evaluated under ρ' at α.
pub record TotalBytes (bs : List ℕ) (ρ ρ' : Reading) (α : Assignment) : Type 0 where
  -- "it is never refused by the check"
  pub checked : check_fault (translation bs ρ) ≡ none
  -- the same assignments are within the domains
  pub assignment : assignment_fault (translation bs ρ) α ≡ none
  -- evaluation meets no number beyond the limit
  pub within : all_met_within (translation bs ρ) ρ' α (constraints (translation bs ρ)) ≡ true
  -- there are as many constraints, each in its place
  pub as_many : length (constraints (translation bs ρ)) ≡ length (constraints bs)
  pub told : (i : ℕ) → i < length (constraints bs)
      → value_of_constraint (translation bs ρ) ρ' α (get_or (constraints (translation bs ρ)) i 0)
      ≡ some (is_true (value_of_constraint bs ρ α (get_or (constraints bs) i 0)))

-- ---- settings

-- An expression in which no declared slot is free does not tell the low ends from no setting at all.
closed-agree : (Γ : Declarations) (e : BExp ⊥) → ((t : ℕ) → t < length Γ.slots → free_b t e ≡ false) → AgreeOn (in_b e) unset (low_setting Γ)
unfolding unset low_setting
closed-agree Γ e closed t f = go (dec_lt t (length Γ.slots))
  where
    go : Dec (t < length Γ.slots) → pos 0 ≡ cond (ltb t (length Γ.slots)) (slot_at Γ t).low (pos 0)
    go (yes b) = absurd (rw (closed t b) at f)
    go (no b) = rw (Tnot→≡false (ltb t (length Γ.slots)) (le→nltb t (length Γ.slots) (omega arith)))

-- An assignment within the domains fits, with each slot at its low end.
assignment_fault→Fits : (bs : List ℕ) (α : Assignment) → assignment_fault bs α ≡ none → Fits (declarations bs) α (low_setting (declarations bs))
unfolding assignment_fault variable_interval between
assignment_fault→Fits bs α a =
    let Γ : Declarations = declarations bs in
    let own = none-first_fault _ (variables_at bs) (length Γ.variables) (none-cond-fault (eqb (length α) (length Γ.variables)) _ _ a) in
    record {
      variables = λ v l. let passed = none-unless 10 _ (own v l) in record { above = le_z_yes (search &&-fst); below = le_z_yes (search &&-snd) };
      slots = low_setting-within Γ;
    }

-- ---- the demand

-- No number beyond the limit is met in any constraint of a list if none is met in each.
all_met_within-All : (bs : List ℕ) (ρ : Reading) (α : Assignment) (ks : List ℕ)
    → All (λ k. T (met_within_b ρ (declarations bs) α (tree_b (node_trees bs) k) unset)) ks → T (all_met_within bs ρ α ks)
unfolding all_met_within
all_met_within-All bs ρ α [] h = tt
all_met_within-All bs ρ α (k ∷ ks) h = &&-intro (met_within_b ρ (declarations bs) α (tree_b (node_trees bs) k) unset) (all_met_within bs ρ α ks) h.0 (all_met_within-All bs ρ α ks h.1)

module _ (bs : List ℕ) (ρ : Reading) where
  -- the declarations of both tables
  abbrev Γ : Declarations
  Γ = declarations bs

  -- the translation
  abbrev new : List ℕ
  new = translation bs ρ

  -- its trees
  abbrev new_trees : List Tree
  new_trees = trees (new_rows ρ Γ (rows bs))

  module _ (h : Translatable bs ρ) where
    -- An assignment is within the domains of the new table exactly where it is within those of the old one.
    pub assignment_fault-new : (α : Assignment) → assignment_fault new α ≡ assignment_fault bs α
    unfolding assignment_fault variables_at
    assignment_fault-new α = rw (declarations-new bs ρ h)

    module _ (i : ℕ) (l : i < length (constraints bs)) (ρ' : Reading) (α : Assignment) (fits : Fits Γ α (low_setting Γ)) where
      -- the node that the i-th constraint names, and P of it
      abbrev e : BExp ⊥
      e = tree_b (trees (rows bs)) (get_or (constraints bs) i 0)

      abbrev P : BExp ⊥
      P = tree_b new_trees (first_of ρ Γ (rows bs) (get_or (constraints bs) i 0))

      -- P does not tell the low ends from no setting.
      P-agrees : AgreeOn (in_b P) unset (low_setting Γ)
      P-agrees = closed-agree Γ P (λ t b. P-free bs h.passed i l ρ t (rw length-slots at b))

      -- P is true exactly where the constraint is.
      P-told : value_b ρ' Γ α P unset ≡ some (is_true (value_b ρ Γ α e unset))
      unfolding node_trees
      P-told =
          let met = rows-total ρ Γ (rows bs) h.passed.well_formed h.bounded α (low_setting Γ) fits ρ' in
          let e-agrees : AgreeOn (in_b e) unset (low_setting Γ) = closed-agree Γ e (λ t b. constraint-free bs h.passed i l t (rw length-slots at b)) in
          rw (value_b-agree ρ' Γ α P unset (low_setting Γ) P-agrees, value_b-agree ρ Γ α e unset (low_setting Γ) e-agrees)
          (met.truths (get_or (constraints bs) i 0) (constraint-node bs h.passed i l)).P_is

      -- A walk over it meets no number beyond the limit.
      P-within : T (met_within_b ρ' Γ α P unset)
      unfolding node_trees
      P-within =
          rw (met_within_b-agree ρ' Γ α P unset (low_setting Γ) P-agrees)
          (within-P ρ ρ' Γ (rows bs) h.passed.well_formed h.bounded α (low_setting Γ) fits (get_or (constraints bs) i 0) (constraint-node bs h.passed i l))

    -- The translation meets the demand.
    pub bytes-total : (ρ' : Reading) (α : Assignment) → assignment_fault bs α ≡ none → TotalBytes bs ρ ρ' α
    unfolding value_of_constraint translated node_trees
    bytes-total ρ' α a =
        let fits : Fits Γ α (low_setting Γ) = assignment_fault→Fits bs α a in
        let first : ℕ → ℕ = first_of ρ Γ (rows bs) in
        let within-each : All (λ k. T (met_within_b ρ' Γ α (tree_b new_trees k) unset)) (map first (constraints bs)) =
        All-mapped (λ k. T (met_within_b ρ' Γ α (tree_b new_trees k) unset)) first (constraints bs)
        (All-at (λ k. T (met_within_b ρ' Γ α (tree_b new_trees (first k)) unset)) (constraints bs) 0
        (λ i l. P-within i l ρ' α fits)) in
        record {
          checked = check_fault-new bs ρ h;
          assignment = assignment_fault-new α ∙ a;
          within = T→≡true _ (all_met_within-All new ρ' α (constraints new) (rw (declarations-new bs ρ h, rows_new bs ρ h, constraints-new bs ρ h) within-each));
          as_many = ap length (constraints-new bs ρ h) ∙ length-map (constraints bs) first;
          told = λ i l.
              rw (declarations-new bs ρ h, rows_new bs ρ h, constraints-new bs ρ h, get_d_map first (constraints bs) i 0 0 l)
              (P-told i l ρ' α fits);
        }
