-- The function `check`: it asks nothing and keeps its contract, which is the page's promise; so demand 1 holds of it, and its result is the only
-- one. `κs` are the lifetimes of a call, `args` the table that it is given, `after` the same at the end, and `Learnt` is what the contract says
-- of them.
use mathlib.Core.Path.{◌≡◌, refl, sym, ap, ◌∙◌}
use Prim.Native.Nat.{ℕ}
use mathlib.Core.Bool.{cond}
use mathlib.Core.List.{List}
use Rattle.std.specs.Prelude.{Result, Ok, Err}
use lib.Dec.{eqb}
use borrow.Fn.Kinds.{Dens, ended_of}
use contract.Lifetimes.{Lfts}
use denote.Triple.Clauses.{AtExit}
use Rattle.answers.specs.Answers.{Answer, done, refused}
use Rattle.verdict.specs.Results.{answer_of, number_and_record}
use Rattle.verdict.specs.declared.Fault.{Fault}
use Rattle.verdict.specs.declared.Fault.TheVariants.{BadLength, Misplaced, NotAllowed, NamesNothing, WrongType, OpenConstraint}
use Rattle.checker.proofs.check.Kinds as Kinds
use Rattle.checker.proofs.check.Met.{met}
use Rattle.checker.proofs.check.Reads.{Asked, Learnt}
use Rattle.checker.proofs.check.Statement.{statement}
use Rattle.answers.specs.Check.{check_order}
use Rattle.demands.specs.Demands.{Checks, Answered}
use Rattle.demands.proofs.Demands.{demand_1}

-- The fault of each answer, and what the check gave.
unfoldable pub fault_of : Answer → Fault
fault_of a =
    cond (eqb a.number 1) BadLength
    (cond (eqb a.number 2) (Misplaced a.at)
    (cond (eqb a.number 3) (NotAllowed a.at) (cond (eqb a.number 4) (NamesNothing a.at) (cond (eqb a.number 5) (WrongType a.at) (OpenConstraint a.at)))))

unfoldable pub check_of : Answer → Result Unit Fault
check_of a = cond (eqb a.number 0) (Ok tt) (Err (fault_of a))

-- Different cases have different answers.
pub fault_of-refused : (f : Fault) → fault_of (refused (number_and_record f)) ≡ f
unfolding fault_of refused
fault_of-refused BadLength = refl
fault_of-refused (Misplaced k) = refl
fault_of-refused (NotAllowed k) = refl
fault_of-refused (NamesNothing k) = refl
fault_of-refused (WrongType k) = refl
fault_of-refused (OpenConstraint k) = refl

pub check_of-answer_of : (c : Result Unit Fault) → check_of (answer_of c) ≡ c
unfolding check_of fault_of answer_of refused done
check_of-answer_of (Ok u) = refl
check_of-answer_of (Err BadLength) = refl
check_of-answer_of (Err (Misplaced k)) = refl
check_of-answer_of (Err (NotAllowed k)) = refl
check_of-answer_of (Err (NamesNothing k)) = refl
check_of-answer_of (Err (WrongType k)) = refl
check_of-answer_of (Err (OpenConstraint k)) = refl

-- The function meets its contract: it ends, for every input that meets what it asks,
pub kept : {M : Type 1} → statement M
kept = met

module _ (κs : Lfts 1) (args : Dens κs Kinds.ps) where
  -- which is nothing.
  pub asks_nothing : Asked κs args
  asks_nothing = tt

  -- its argument at the end
  abbrev pub End : Type 0
  End = AtExit (ended_of 1 Kinds.ps Kinds.r) κs

  -- what it is given
  abbrev pub table : List ℕ
  table = args.0.now

  module _ (r : Result Unit Fault) (after : End) (h : Learnt κs args r after) where
    -- What it gives is what the page promises.
    pub promised : Checks table (answer_of r)
    promised = h

    -- Demand 1.
    pub answered : Answered 6 (check_order table) (answer_of r)
    answered = demand_1.check table (answer_of r) h

  -- Any two results are equal.
  pub one-result : (r q : Result Unit Fault) (after later : End) → Learnt κs args r after → Learnt κs args q later → r ≡ q
  one-result r q after later h g = sym (check_of-answer_of r) ∙ ap check_of (h ∙ sym g) ∙ check_of-answer_of q
