-- Which answer each way through the code gives.
use mathlib.Core.Path.{◌≡◌, refl, sym, ap, ◌∙◌}
use mathlib.Core.Logic.{⊎_elim}
use Prim.Native.Nat.{ℕ, ◌≤◌, ◌<◌}
use native.Mathlib.Omega.{arith}
use mathlib.Core.Bool.{Bool, false, cond}
use mathlib.Core.List.{List, ◌++◌}
use mathlib.Core.Option.{Option, none, some, or_else}
use borrow.Author.Tests.{le-leb, lt-leb}
use lib.Dec.{leb, leb→le}
use lib.ListN.{length, take, drop}
use Rattle.std.specs.Prelude.{Ok, Err}
use Rattle.numbers.proofs.Naturals.{lt_or_ge}
use Rattle.language.specs.Readings.{Reading}
use Rattle.language.specs.Meaning.{Assignment}
use Rattle.answers.specs.Sections.{constraints, constraint_count}
use Rattle.answers.specs.Check as Check
use Rattle.answers.specs.Check.{refuse, check_fault}
use Rattle.answers.specs.Answers as Answers
use Rattle.answers.specs.Answers.{Outcome, refused, outcome, reading_of, refuse_unless, assignment_fault, total_cost, all_met_within, verdicts, all_one, evaluate_order, evaluation_done}
use Rattle.answers.proofs.Declared.{length-constraints}
use Rattle.answers.proofs.Orders.{no-reading, reading_chosen-is, evaluate-faults}
use Rattle.answers.proofs.Faults.{or_else-none, or_else-some, none-or_else, none-cond}
use Rattle.steps.specs.Capped.{past_budgets, capped}
use Rattle.steps.proofs.Caps.{capped-low, capped-high}
use Rattle.layout.proofs.Tables.{laid-in}
use Rattle.layout.specs.declared.checked_table.CheckedTable.{CheckedTable}
use Rattle.verdict.specs.Results as Verdict
use Rattle.verdict.specs.declared.Fault.{Fault}
use Rattle.constraints.specs.declared.Verdicts.{Verdicts}
use Rattle.constraints.proofs.Found.{Found, length-verdicts}
use Rattle.evaluation.specs.declared.Totals.{Totals}
use Rattle.evaluation.specs.declared.Refusal.{Refusal}
use Rattle.evaluation.specs.declared.Refusal.TheVariants.{BadChoice, Unsound, Unassigned, NoRoom, OverBudget, BeyondLimit}
use Rattle.evaluation.specs.Results.{number_and_record, answer_of, outcome_of}
use Rattle.evaluation.specs.Admissions.{fault_before, outcome_after, Admits}

-- ---- the choice

-- A choice that is none: 7, and nothing is written.
pub refused-choice : (c : ℕ) (table : List ℕ) (α : Assignment) (budget : ℕ) (lent : List ℕ) → none ≡ reading_of c
    → outcome_of (Err BadChoice) lent ≡ Answers.evaluate c table α budget lent
unfolding Answers.evaluate evaluate_order outcome answer_of
refused-choice c table α budget lent e = rw (no-reading c (sym e))

-- ---- before the walk

-- The steps that the code holds are the table's if they are within a budget,
capped-within : (n budget : ℕ) → budget < past_budgets → capped n ≤ budget → capped n ≡ n
capped-within n budget h l = ⊎_elim (λ m. capped-low n m) (λ m. absurd (omega (arith, capped-high n m))) (lt_or_ge n past_budgets)

-- and the table's are beyond a budget if they are.
capped-beyond : (n budget : ℕ) → budget < capped n → budget < past_budgets → budget < n
capped-beyond n budget l h = ⊎_elim (λ m. omega (arith, capped-low n m)) (λ m. omega arith) (lt_or_ge n past_budgets)

module _ (table : List ℕ) (α : Assignment) (budget room : ℕ) where
  -- 10 comes first,
  pub admits_unassigned : (p : ℕ) → refuse 10 p ≡ assignment_fault table α → Admits table α budget room (Err (Unassigned p))
  unfolding fault_before
  admits_unassigned p e = record { fault = sym (or_else-some _ (sym e)); steps = λ n q. cc }

  module _ (assigned : none ≡ assignment_fault table α) {count : ℕ} (counted : count ≡ constraint_count table) where
    -- then 9,
    pub admits_no_room : room < count → Admits table α budget room (Err NoRoom)
    unfolding fault_before refuse_unless
    admits_no_room h =
        record {
          fault = sym (or_else-none (sym assigned) ∙ or_else-some _ (ap (λ (b : Bool). cond b none (refuse 9 0)) (lt-leb (length (constraints table)) room (omega (arith, length-constraints table)))));
          steps = λ n e. cc;
        }

    module _ (h : count ≤ room) where
      to-budget : fault_before table α budget room ≡ cond (leb (total_cost table) budget) none (refuse 11 0)
      unfolding fault_before refuse_unless
      to-budget = or_else-none (sym assigned) ∙ or_else-none (ap (λ (b : Bool). cond b none (refuse 9 0)) (le-leb (length (constraints table)) room (omega (arith, length-constraints table))))

      module _ {n : ℕ} (counting : n ≡ capped (total_cost table)) (small : budget < past_budgets) where
        -- then 11.
        pub admits_over : budget < n → Admits table α budget room (Err OverBudget)
        admits_over l =
            record {
              fault = sym (to-budget ∙ ap (λ (b : Bool). cond b none (refuse 11 0)) (lt-leb (total_cost table) budget (capped-beyond (total_cost table) budget (omega arith) small)));
              steps = λ n e. cc;
            }

        pub admits_steps : n ≤ budget → Admits table α budget room (Ok n)
        admits_steps l =
            let e : n ≡ total_cost table = counting ∙ capped-within (total_cost table) budget small (omega arith) in
            record {
              fault = sym (to-budget ∙ ap (λ (b : Bool). cond b none (refuse 11 0)) (le-leb (total_cost table) budget (omega arith)));
              steps = λ m q. let z : n ≡ m = cc in sym z ∙ e;
            }

  -- What lets a table through leaves room for its constraints.
  pub admitted_room : none ≡ fault_before table α budget room → length (constraints table) ≤ room
  unfolding fault_before refuse_unless
  admitted_room e =
      leb→le (length (constraints table)) room (none-cond (leb (length (constraints table)) room) _ (none-or_else _ _ (none-or_else (assignment_fault table α) _ (sym e)).1).0)

-- ---- the refusals, in order

-- the last of four faults, apart from the others
or_else-apart : (a b c d : Option Check.Refusal) → or_else a (or_else b (or_else c d)) ≡ or_else (or_else a (or_else b c)) d
unfolding or_else
or_else-apart (some r) b c d = refl
or_else-apart none (some r) c d = refl
or_else-apart none none c d = refl

module _ (choice : ℕ) (ρ : Reading) (chosen : some ρ ≡ reading_of choice) (table : List ℕ) (α : Assignment) (budget : ℕ) (lent : List ℕ) where
  -- the faults behind 7, in order
  abbrev faults : Option Check.Refusal
  faults = or_else (check_fault table) (or_else (assignment_fault table α) (or_else (refuse_unless 9 (leb (length (constraints table)) (length lent))) (or_else (refuse_unless 11 (leb (total_cost table) budget)) (refuse_unless 8 (all_met_within table ρ α (constraints table))))))

  -- A refusal changes no byte.
  refusal : (e : Refusal) → faults ≡ some (number_and_record e) → outcome_of (Err e) lent ≡ Answers.evaluate choice table α budget lent
  unfolding Answers.evaluate outcome answer_of
  refusal e q = rw (evaluate-faults choice ρ (sym chosen) table (length lent) α budget, q)

  -- What the check refuses.
  pub refused-check : (f : Fault) → some (Verdict.number_and_record f) ≡ check_fault table → outcome_of (Err (Unsound f)) lent ≡ Answers.evaluate choice table α budget lent
  refused-check f e = refusal (Unsound f) (or_else-some _ (sym e))

  module _ (passed : check_fault table ≡ none) where
    fault-behind : faults ≡ or_else (fault_before table α budget (length lent)) (refuse_unless 8 (all_met_within table ρ α (constraints table)))
    unfolding fault_before
    fault-behind = or_else-none passed ∙ or_else-apart (assignment_fault table α) _ _ _

    -- What is refused before the walk.
    pub refused-before : (e : Refusal) → some (number_and_record e) ≡ fault_before table α budget (length lent)
        → outcome_of (Err e) lent ≡ Answers.evaluate choice table α budget lent
    refused-before e q = refusal e (fault-behind ∙ or_else-some _ (sym q))

    -- What the walk leaves.
    pub after-walk : {o : Outcome} → none ≡ fault_before table α budget (length lent) → o ≡ outcome_after table α ρ lent → o ≡ Answers.evaluate choice table α budget lent
    unfolding Answers.evaluate outcome_after
    after-walk e q = rw (evaluate-faults choice ρ (sym chosen) table (length lent) α budget, reading_chosen-is choice ρ (sym chosen), fault-behind, or_else-none (sym e)) q

-- ---- after the walk

-- A table has few constraints.
pub few-constraints : (t : CheckedTable) → constraint_count t.bytes.now ≤ 5_000
unfolding constraint_count
few-constraints t = let l = laid-in t in omega (arith, l, l.order)

module _ (table : List ℕ) (ρ : Reading) (α : Assignment) (lent : List ℕ) where
  -- 8 comes last,
  pub refused-limit : all_met_within table ρ α (constraints table) ≡ false → outcome_of (Err BeyondLimit) lent ≡ outcome_after table α ρ lent
  unfolding outcome_after outcome refuse_unless answer_of
  refused-limit e = rw e

  -- and then the bytes are written.
  pub written : {found : Verdicts} {totals : Totals} {after : List ℕ} → Found table ρ α found → totals.steps ≡ total_cost table → totals.written ≡ constraint_count table → totals.all ≡ found.all
      → after ≡ take totals.written found.bytes ++ drop (length (take totals.written found.bytes)) lent → outcome_of (Ok totals) after ≡ outcome_after table α ρ lent
  unfolding outcome_after outcome refuse_unless evaluation_done answer_of
  written {found} {totals} f s w a e =
      let many : totals.written ≡ length (constraints table) = w ∙ sym (length-constraints table) in
      let bytes : take totals.written found.bytes ≡ verdicts table ρ α = rw many f.bytes in
      let count : totals.written ≡ length (verdicts table ρ α) = many ∙ sym (length-verdicts table ρ α) in
      let within = f.within in
      let all = f.all in
      rw (within, e, bytes, s, count, a, all)
