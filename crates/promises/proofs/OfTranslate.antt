-- The function `translate`: it asks nothing and keeps its contract, which is the page's promise; so demands 1, 2 and 3 hold of its result and
-- of its own output bytes, and these are the only ones. `κs` are the lifetimes of a call, `args` the choice, the table and the buffer that it is
-- given, `after` the same at the end, and `Learnt` is what the contract says of them.
use mathlib.Core.Path.{◌≡◌, refl, sym, ap, ◌∙◌}
use Prim.Native.Nat.{ℕ}
use mathlib.Core.Bool.{cond}
use mathlib.Core.List.{List}
use Rattle.std.specs.Prelude.{Result, Ok, Err}
use lib.Dec.{eqb}
use lib.ListN.{length}
use borrow.Fn.Kinds.{Dens, ended_of}
use contract.Lifetimes.{Lfts}
use denote.Triple.Clauses.{AtExit}
use Rattle.answers.specs.Answers.{Answer, Outcome, done, refused, translate_order, reading_chosen}
use Rattle.verdict.specs.declared.Fault.TheVariants.{BadLength, Misplaced, NotAllowed, NamesNothing, WrongType, OpenConstraint}
use Rattle.translation.specs.Results.{answer_of, outcome_of}
use Rattle.translation.specs.declared.Refusal.{Refusal}
use Rattle.translation.specs.declared.Refusal.TheVariants.{BadChoice, Unsound, Beyond, NoRoom}
use Rattle.translation.proofs.translate.Kinds as Kinds
use Rattle.translation.proofs.translate.Met.{met}
use Rattle.translation.proofs.translate.Reads.{Asked, Learnt}
use Rattle.translation.proofs.translate.Statement.{statement}
use Rattle.demands.specs.Demands.{Translates, AnsweredWith, written, WrittenByRules, TotalTable}
use Rattle.demands.proofs.Demands.{demand_1, demand_2, demand_3}
use Rattle.promises.proofs.OfCheck.{fault_of}

-- What the translation gave for each answer.
unfoldable translation_of : Answer → Result ℕ Refusal
translation_of a =
    cond (eqb a.number 0) (Ok a.length_written)
    (Err (cond (eqb a.number 7) BadChoice (cond (eqb a.number 8) (Beyond a.at) (cond (eqb a.number 9) NoRoom (Unsound (fault_of a))))))

-- Different cases have different answers.
translation_of-answer_of : (r : Result ℕ Refusal) → translation_of (answer_of r) ≡ r
unfolding translation_of fault_of answer_of refused done
translation_of-answer_of (Ok n) = refl
translation_of-answer_of (Err BadChoice) = refl
translation_of-answer_of (Err (Unsound BadLength)) = refl
translation_of-answer_of (Err (Unsound (Misplaced k))) = refl
translation_of-answer_of (Err (Unsound (NotAllowed k))) = refl
translation_of-answer_of (Err (Unsound (NamesNothing k))) = refl
translation_of-answer_of (Err (Unsound (WrongType k))) = refl
translation_of-answer_of (Err (Unsound (OpenConstraint k))) = refl
translation_of-answer_of (Err (Beyond p)) = refl
translation_of-answer_of (Err NoRoom) = refl

-- The function meets its contract: it ends, for every input that meets what it asks,
pub kept : {M : Type 1} → statement M
kept = met

module _ (κs : Lfts 2) (args : Dens κs Kinds.ps) where
  -- which is nothing.
  pub asks_nothing : Asked κs args
  asks_nothing = tt

  -- its arguments at the end
  abbrev pub End : Type 0
  End = AtExit (ended_of 2 Kinds.ps Kinds.r) κs

  -- what it is given
  abbrev pub choice : ℕ
  choice = args.0

  abbrev pub table : List ℕ
  table = args.1.0.now

  abbrev pub lent : List ℕ
  lent = args.1.1.0.now

  module _ (r : Result ℕ Refusal) (after : End) (h : Learnt κs args r after) where
    -- its answer, with the buffer at the end
    abbrev pub given : Outcome
    given = outcome_of r after.1.1.0.now

    -- What it gives is what the page promises.
    pub promised : Translates choice table lent given
    promised = h

    -- Demand 1.
    pub answered : AnsweredWith 9 (translate_order choice table (length lent)) lent given
    answered = demand_1.translate choice table lent given h

    module _ (z : (answer_of r).number ≡ 0) where
      -- Demand 2.
      pub by_the_rules : WrittenByRules table (reading_chosen choice) lent given
      by_the_rules = demand_2.translate choice table lent given h z

      -- Demand 3, of the function's own output bytes.
      pub total : TotalTable table (reading_chosen choice) (written given)
      total = demand_3.translate choice table lent given h z

  -- Any two results are equal, and so are the lent bytes after them.
  pub one-result : (r q : Result ℕ Refusal) (after later : End) → Learnt κs args r after → Learnt κs args q later
      → (r ≡ q) × (after.1.1.0.now ≡ later.1.1.0.now)
  one-result r q after later h g =
      let same : given r after h ≡ given q later g = h ∙ sym g in
      (sym (translation_of-answer_of r) ∙ ap (λ (o : Outcome). translation_of o.answer) same ∙ translation_of-answer_of q, ap (λ (o : Outcome). o.lent) same)
