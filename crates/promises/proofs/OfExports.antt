-- The functions that are exported: each asks nothing and keeps its contract, which is the page's promise, so that the demands hold of what it gives, and its
-- struct and the bytes that it was lent are the only ones. `κs` are the lifetimes of a call, `args` what it is given, `after` the same at the end, and
-- `Learnt` is what the contract says of them. That the exports of `barfigol_c` have the same contracts is `Exported` there.
use mathlib.Core.Path.{◌≡◌, sym, ap, ◌∙◌}
use Prim.Native.Nat.{ℕ}
use mathlib.Core.List.{List}
use lib.ListN.{length}
use borrow.Fn.Kinds.{Dens, ended_of}
use contract.Lifetimes.{Lfts}
use denote.Triple.Clauses.{AtExit}
use Rattle.language.specs.Meaning.{Assignment}
use Rattle.answers.specs.Answers as Answers
use Rattle.answers.specs.Answers.{Outcome, evaluate_order, translate_order, reading_chosen}
use Rattle.barfigol.specs.Results.{answer_of, outcome_of}
use Rattle.barfigol.specs.declared.Answer.{Answer}
use Rattle.barfigol.proofs.barfigol_check.Kinds as check-kinds
use Rattle.barfigol.proofs.barfigol_check.Met as check-met
use Rattle.barfigol.proofs.barfigol_check.Reads as check-reads
use Rattle.barfigol.proofs.barfigol_check.Statement as check-stated
use Rattle.barfigol.proofs.barfigol_evaluate.Kinds as evaluate-kinds
use Rattle.barfigol.proofs.barfigol_evaluate.Met as evaluate-met
use Rattle.barfigol.proofs.barfigol_evaluate.Reads as evaluate-reads
use Rattle.barfigol.proofs.barfigol_evaluate.Statement as evaluate-stated
use Rattle.barfigol.proofs.barfigol_translate.Kinds as translate-kinds
use Rattle.barfigol.proofs.barfigol_translate.Met as translate-met
use Rattle.barfigol.proofs.barfigol_translate.Reads as translate-reads
use Rattle.barfigol.proofs.barfigol_translate.Statement as translate-stated
use Rattle.answers.specs.Check.{check_order}
use Rattle.demands.specs.Demands.{Checks, Evaluates, Translates, Answered, AnsweredWith, Evaluated, written, WrittenByRules, TotalTable}
use Rattle.demands.proofs.Demands.{demand_1, demand_2, demand_3}

-- the struct of each answer
abbrev struct_of : Answers.Answer → Answer
struct_of a = record { number = a.number; «record» = a.at; steps = a.steps; length = a.length_written; all_true = a.all_true }

-- ---- barfigol_check

pub check-kept : {M : Type 1} → check-stated.statement M
check-kept = check-met.met

module _ (κs : Lfts 1) (args : Dens κs check-kinds.ps) where
  pub check-asks-nothing : check-reads.Asked κs args
  check-asks-nothing = tt

  abbrev CheckEnd : Type 0
  CheckEnd = AtExit (ended_of 1 check-kinds.ps check-kinds.r) κs

  pub check-promised : (r : Answer) (after : CheckEnd) → check-reads.Learnt κs args r after → Checks args.0.now (answer_of r)
  check-promised r after h = h

  pub check-answered : (r : Answer) (after : CheckEnd) → check-reads.Learnt κs args r after → Answered 6 (check_order args.0.now) (answer_of r)
  check-answered r after h = demand_1.check args.0.now (answer_of r) h

  pub check-one-result : (r q : Answer) (after later : CheckEnd) → check-reads.Learnt κs args r after → check-reads.Learnt κs args q later → r ≡ q
  check-one-result r q after later h g = ap struct_of (h ∙ sym g)

-- ---- barfigol_evaluate

pub evaluate-kept : {M : Type 1} → evaluate-stated.statement M
evaluate-kept = evaluate-met.met

module _ (κs : Lfts 3) (args : Dens κs evaluate-kinds.ps) where
  pub evaluate-asks-nothing : evaluate-reads.Asked κs args
  evaluate-asks-nothing = tt

  abbrev EvaluateEnd : Type 0
  EvaluateEnd = AtExit (ended_of 3 evaluate-kinds.ps evaluate-kinds.r) κs

  -- what it is given
  abbrev evaluate-choice : ℕ
  evaluate-choice = args.0

  abbrev evaluate-table : List ℕ
  evaluate-table = args.1.0.now

  abbrev assignment : Assignment
  assignment = args.1.1.0.now

  abbrev budget : ℕ
  budget = args.1.1.1.0

  abbrev verdicts : List ℕ
  verdicts = args.1.1.1.1.0.now

  module _ (r : Answer) (after : EvaluateEnd) (h : evaluate-reads.Learnt κs args r after) where
    -- its answer, with the list at the end
    abbrev evaluate-given : Outcome
    evaluate-given = outcome_of r after.1.1.1.1.0.now

    pub evaluate-promised : Evaluates evaluate-choice evaluate-table assignment budget verdicts evaluate-given
    evaluate-promised = h

    pub evaluate-answered : AnsweredWith 11 (evaluate_order evaluate-choice evaluate-table assignment budget (length verdicts)) verdicts evaluate-given
    evaluate-answered = demand_1.evaluate evaluate-choice evaluate-table assignment budget verdicts evaluate-given h

    pub evaluate-evaluated : (answer_of r).number ≡ 0 → Evaluated evaluate-table (reading_chosen evaluate-choice) assignment verdicts evaluate-given
    evaluate-evaluated z = demand_2.evaluate evaluate-choice evaluate-table assignment budget verdicts evaluate-given h z

  pub evaluate-one-result : (r q : Answer) (after later : EvaluateEnd) → evaluate-reads.Learnt κs args r after → evaluate-reads.Learnt κs args q later
      → (r ≡ q) × (after.1.1.1.1.0.now ≡ later.1.1.1.1.0.now)
  evaluate-one-result r q after later h g =
      let same : evaluate-given r after h ≡ evaluate-given q later g = h ∙ sym g in
      (ap (λ (o : Outcome). struct_of o.answer) same, ap (λ (o : Outcome). o.lent) same)

-- ---- barfigol_translate

pub translate-kept : {M : Type 1} → translate-stated.statement M
translate-kept = translate-met.met

module _ (κs : Lfts 2) (args : Dens κs translate-kinds.ps) where
  pub translate-asks-nothing : translate-reads.Asked κs args
  translate-asks-nothing = tt

  abbrev TranslateEnd : Type 0
  TranslateEnd = AtExit (ended_of 2 translate-kinds.ps translate-kinds.r) κs

  -- what it is given
  abbrev translate-choice : ℕ
  translate-choice = args.0

  abbrev translate-table : List ℕ
  translate-table = args.1.0.now

  abbrev buffer : List ℕ
  buffer = args.1.1.0.now

  module _ (r : Answer) (after : TranslateEnd) (h : translate-reads.Learnt κs args r after) where
    -- its answer, with the buffer at the end
    abbrev translate-given : Outcome
    translate-given = outcome_of r after.1.1.0.now

    pub translate-promised : Translates translate-choice translate-table buffer translate-given
    translate-promised = h

    pub translate-answered : AnsweredWith 9 (translate_order translate-choice translate-table (length buffer)) buffer translate-given
    translate-answered = demand_1.translate translate-choice translate-table buffer translate-given h

    pub translate-by-the-rules : (answer_of r).number ≡ 0 → WrittenByRules translate-table (reading_chosen translate-choice) buffer translate-given
    translate-by-the-rules z = demand_2.translate translate-choice translate-table buffer translate-given h z

    pub translate-total : (answer_of r).number ≡ 0 → TotalTable translate-table (reading_chosen translate-choice) (written translate-given)
    translate-total z = demand_3.translate translate-choice translate-table buffer translate-given h z

  pub translate-one-result : (r q : Answer) (after later : TranslateEnd) → translate-reads.Learnt κs args r after → translate-reads.Learnt κs args q later
      → (r ≡ q) × (after.1.1.0.now ≡ later.1.1.0.now)
  translate-one-result r q after later h g =
      let same : translate-given r after h ≡ translate-given q later g = h ∙ sym g in
      (ap (λ (o : Outcome). struct_of o.answer) same, ap (λ (o : Outcome). o.lent) same)
