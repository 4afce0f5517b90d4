-- The function `list`: it asks nothing and keeps its contract, which is the page's promise; so its result and the text's bytes are the only ones.
-- `κs` are the lifetimes of a call, `args` the input and the buffer for the text that it is given, `after` the same at the end, and `Learnt` is
-- what the contract says of them.
use mathlib.Core.Path.{◌≡◌}
use Prim.Native.Nat.{ℕ}
use mathlib.Core.List.{List}
use borrow.Fn.Kinds.{Dens, ended_of}
use contract.Lifetimes.{Lfts}
use denote.Triple.Clauses.{AtExit}
use Rattle.listing.proofs.list.Kinds as Kinds
use Rattle.listing.proofs.list.Met.{met}
use Rattle.listing.proofs.list.Reads.{Asked, Learnt}
use Rattle.listing.proofs.list.Statement.{statement}
use Rattle.demands.specs.Demands.{Lists}
use Rattle.demands.proofs.Demands.{one_answer}

-- The function meets its contract: it ends, for every input that meets what it asks,
pub kept : {M : Type 1} → statement M
kept = met

module _ (κs : Lfts 2) (args : Dens κs Kinds.ps) where
  -- which is nothing.
  pub asks_nothing : Asked κs args
  asks_nothing = tt

  -- its arguments at the end
  abbrev pub End : Type 0
  End = AtExit (ended_of 2 Kinds.ps Kinds.r) κs

  -- what it is given
  abbrev pub input : List ℕ
  input = args.0.now

  abbrev pub lent : List ℕ
  lent = args.1.0.now

  -- What it gives is what the page promises.
  pub promised : (r : ℕ) (after : End) → Learnt κs args r after → Lists input lent r after.1.0.now
  promised r after h = record { text_length = h.0; text = (rw h.0 at h).1.0 }

  -- Any two results are equal, and so are the lent bytes after them.
  pub one-result : (r q : ℕ) (after later : End) → Learnt κs args r after → Learnt κs args q later → (r ≡ q) × (after.1.0.now ≡ later.1.0.now)
  one-result r q after later h g = one_answer.list input lent r q after.1.0.now later.1.0.now (promised r after h) (promised q later g)
