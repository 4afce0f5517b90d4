-- The function `evaluate`: it asks nothing and keeps its contract, which is the page's promise; so demands 1 and 2 hold of its result and of the
-- bytes that it was lent, and these are the only ones. `κs` are the lifetimes of a call, `args` the choice, the table, the assignment, the budget
-- and the list for the verdicts that it is given, `after` the same at the end, and `Learnt` is what the contract says of them.
use mathlib.Core.Path.{◌≡◌, refl, sym, ap, ◌∙◌}
use Prim.Native.Nat.{ℕ}
use mathlib.Core.Bool.{cond}
use mathlib.Core.List.{List}
use Rattle.std.specs.Prelude.{Result, Ok, Err}
use lib.Dec.{eqb}
use lib.ListN.{length}
use borrow.Fn.Kinds.{Dens, ended_of}
use contract.Lifetimes.{Lfts}
use denote.Triple.Clauses.{AtExit}
use Rattle.language.specs.Meaning.{Assignment}
use Rattle.answers.specs.Answers.{Answer, Outcome, done, refused, evaluate_order, reading_chosen}
use Rattle.verdict.specs.declared.Fault.TheVariants.{BadLength, Misplaced, NotAllowed, NamesNothing, WrongType, OpenConstraint}
use Rattle.evaluation.specs.Results.{answer_of, outcome_of}
use Rattle.evaluation.specs.declared.Totals.{Totals}
use Rattle.evaluation.specs.declared.Refusal.{Refusal}
use Rattle.evaluation.specs.declared.Refusal.TheVariants.{BadChoice, Unsound, Unassigned, NoRoom, OverBudget, BeyondLimit}
use Rattle.evaluation.proofs.evaluate.Kinds as Kinds
use Rattle.evaluation.proofs.evaluate.Met.{met}
use Rattle.evaluation.proofs.evaluate.Reads.{Asked, Learnt}
use Rattle.evaluation.proofs.evaluate.Statement.{statement}
use Rattle.demands.specs.Demands.{Evaluates, AnsweredWith, Evaluated}
use Rattle.demands.proofs.Demands.{demand_1, demand_2}
use Rattle.promises.proofs.OfCheck.{fault_of}

-- What the evaluation gave for each answer.
unfoldable evaluation_of : Answer → Result Totals Refusal
evaluation_of a =
    cond (eqb a.number 0) (Ok (record { steps = a.steps; written = a.length_written; all = a.all_true }))
    (Err (cond (eqb a.number 7) BadChoice
    (cond (eqb a.number 8) BeyondLimit
    (cond (eqb a.number 9) NoRoom (cond (eqb a.number 10) (Unassigned a.at) (cond (eqb a.number 11) OverBudget (Unsound (fault_of a))))))))

-- Different cases have different answers.
evaluation_of-answer_of : (r : Result Totals Refusal) → evaluation_of (answer_of r) ≡ r
unfolding evaluation_of fault_of answer_of refused done
evaluation_of-answer_of (Ok totals) = refl
evaluation_of-answer_of (Err BadChoice) = refl
evaluation_of-answer_of (Err (Unsound BadLength)) = refl
evaluation_of-answer_of (Err (Unsound (Misplaced k))) = refl
evaluation_of-answer_of (Err (Unsound (NotAllowed k))) = refl
evaluation_of-answer_of (Err (Unsound (NamesNothing k))) = refl
evaluation_of-answer_of (Err (Unsound (WrongType k))) = refl
evaluation_of-answer_of (Err (Unsound (OpenConstraint k))) = refl
evaluation_of-answer_of (Err (Unassigned p)) = refl
evaluation_of-answer_of (Err NoRoom) = refl
evaluation_of-answer_of (Err OverBudget) = refl
evaluation_of-answer_of (Err BeyondLimit) = refl

-- The function meets its contract: it ends, for every input that meets what it asks,
pub kept : {M : Type 1} → statement M
kept = met

module _ (κs : Lfts 3) (args : Dens κs Kinds.ps) where
  -- which is nothing.
  pub asks_nothing : Asked κs args
  asks_nothing = tt

  -- its arguments at the end
  abbrev pub End : Type 0
  End = AtExit (ended_of 3 Kinds.ps Kinds.r) κs

  -- what it is given
  abbrev pub choice : ℕ
  choice = args.0

  abbrev pub table : List ℕ
  table = args.1.0.now

  abbrev pub assignment : Assignment
  assignment = args.1.1.0.now

  abbrev pub budget : ℕ
  budget = args.1.1.1.0

  abbrev pub lent : List ℕ
  lent = args.1.1.1.1.0.now

  module _ (r : Result Totals Refusal) (after : End) (h : Learnt κs args r after) where
    -- its answer, with the list at the end
    abbrev pub given : Outcome
    given = outcome_of r after.1.1.1.1.0.now

    -- What it gives is what the page promises.
    pub promised : Evaluates choice table assignment budget lent given
    promised = h

    -- Demand 1.
    pub answered : AnsweredWith 11 (evaluate_order choice table assignment budget (length lent)) lent given
    answered = demand_1.evaluate choice table assignment budget lent given h

    -- Demand 2.
    pub evaluated : (answer_of r).number ≡ 0 → Evaluated table (reading_chosen choice) assignment lent given
    evaluated z = demand_2.evaluate choice table assignment budget lent given h z

  -- Any two results are equal, and so are the lent bytes after them.
  pub one-result : (r q : Result Totals Refusal) (after later : End) → Learnt κs args r after → Learnt κs args q later
      → (r ≡ q) × (after.1.1.1.1.0.now ≡ later.1.1.1.1.0.now)
  one-result r q after later h g =
      let same : given r after h ≡ given q later g = h ∙ sym g in
      (sym (evaluation_of-answer_of r) ∙ ap (λ (o : Outcome). evaluation_of o.answer) same ∙ evaluation_of-answer_of q, ap (λ (o : Outcome). o.lent) same)
