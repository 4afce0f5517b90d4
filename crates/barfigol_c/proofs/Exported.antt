-- The exported functions: each asks nothing and keeps its contract, and what its contract says of a call the contract of the function of `barfigol` says of
-- it. So all that `OfExports` of promises has of those functions holds of the exported ones: the page's promise, the demands, and that the struct and the
-- bytes that it was lent are the only ones. `κs` are the lifetimes of a call, `args` what it is given, `after` the same at the end, and `Learnt` is what a
-- contract says of them.
use borrow.Fn.Kinds.{Dens, ended_of}
use contract.Lifetimes.{Lfts}
use denote.Triple.Clauses.{AtExit}
use Rattle.barfigol.specs.declared.Answer.{Answer}
use Rattle.barfigol.proofs.barfigol_check.Reads as called-check-reads
use Rattle.barfigol_c.proofs.barfigol_check.Kinds as check-kinds
use Rattle.barfigol_c.proofs.barfigol_check.Met as check-met
use Rattle.barfigol_c.proofs.barfigol_check.Reads as check-reads
use Rattle.barfigol_c.proofs.barfigol_check.Statement as check-stated
use Rattle.barfigol.proofs.barfigol_evaluate.Reads as called-evaluate-reads
use Rattle.barfigol_c.proofs.barfigol_evaluate.Kinds as evaluate-kinds
use Rattle.barfigol_c.proofs.barfigol_evaluate.Met as evaluate-met
use Rattle.barfigol_c.proofs.barfigol_evaluate.Reads as evaluate-reads
use Rattle.barfigol_c.proofs.barfigol_evaluate.Statement as evaluate-stated
use Rattle.barfigol.proofs.barfigol_translate.Reads as called-translate-reads
use Rattle.barfigol_c.proofs.barfigol_translate.Kinds as translate-kinds
use Rattle.barfigol_c.proofs.barfigol_translate.Met as translate-met
use Rattle.barfigol_c.proofs.barfigol_translate.Reads as translate-reads
use Rattle.barfigol_c.proofs.barfigol_translate.Statement as translate-stated

-- ---- barfigol_check

pub check-kept : {M : Type 1} → check-stated.statement M
check-kept = check-met.met

module _ (κs : Lfts 1) (args : Dens κs check-kinds.ps) where
  pub check-asks-nothing : check-reads.Asked κs args
  check-asks-nothing = tt

  pub check-called : (r : Answer) (after : AtExit (ended_of 1 check-kinds.ps check-kinds.r) κs) → check-reads.Learnt κs args r after
      → called-check-reads.Learnt κs args r after
  check-called r after h = h

-- ---- barfigol_evaluate

pub evaluate-kept : {M : Type 1} → evaluate-stated.statement M
evaluate-kept = evaluate-met.met

module _ (κs : Lfts 3) (args : Dens κs evaluate-kinds.ps) where
  pub evaluate-asks-nothing : evaluate-reads.Asked κs args
  evaluate-asks-nothing = tt

  pub evaluate-called : (r : Answer) (after : AtExit (ended_of 3 evaluate-kinds.ps evaluate-kinds.r) κs) → evaluate-reads.Learnt κs args r after
      → called-evaluate-reads.Learnt κs args r after
  evaluate-called r after h = h

-- ---- barfigol_translate

pub translate-kept : {M : Type 1} → translate-stated.statement M
translate-kept = translate-met.met

module _ (κs : Lfts 2) (args : Dens κs translate-kinds.ps) where
  pub translate-asks-nothing : translate-reads.Asked κs args
  translate-asks-nothing = tt

  pub translate-called : (r : Answer) (after : AtExit (ended_of 2 translate-kinds.ps translate-kinds.r) κs) → translate-reads.Learnt κs args r after
      → called-translate-reads.Learnt κs args r after
  translate-called r after h = h
