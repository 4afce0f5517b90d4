-- What the pass over the nodes keeps of the nodes before, and what it answers.
-- Internal: a contract behind the public ones; no public promise cites it.
use Rattle.std.specs.Prelude.{◌≡◌, ℕ, ◌+◌, List, pos, get_or, Result, Ok, Err}
use Rattle.std.proofs.Math.Option.{Option, none}
use Rattle.language.specs.Syntax.{Declarations}
use Rattle.language.specs.Tables.{Tree, as_i, tree_i, fill, trees}
use Rattle.language.specs.Meaning.{array_at}
use Rattle.rules.specs.Bounds.{Interval, interval, elements_interval}
use Rattle.answers.specs.Sections.{listed, nodes_at, row_of, declarations}
use Rattle.answers.specs.Check.{Refusal, refuse}
use Rattle.intervals.specs.Spans.{interval_of}
use Rattle.intervals.specs.declared.Interval as Declared
use Rattle.bounds.specs.declared.Beyond.{Beyond}

-- the trees of the first n nodes
unfoldable pub trees_before : List ℕ → ℕ → List Tree
trees_before bs n = trees (listed n (λ i. row_of bs (nodes_at bs + i)))

-- the interval of a node; 0..0 of a Boolean one
unfoldable pub ends_of : Declarations → Tree → Interval
ends_of Γ t = interval Γ (as_i t)

-- the interval of node n from those before it
unfoldable pub node_ends : List ℕ → ℕ → Interval
node_ends bs n = ends_of (declarations bs) (fill (trees_before bs n) (row_of bs (nodes_at bs + n)))

-- the interval that is kept at k: 0..0 where there is none
abbrev pub kept_at : List Declared.Interval → ℕ → Interval
kept_at is k = interval_of (get_or is k (record { low = pos 0; high = pos 0 }))

-- The interval of every tree; 0..0 where there is none.
pub record Kept (Γ : Declarations) (ts : List Tree) (is : List Declared.Interval) : Type 0 where
  pub same : (k : ℕ) → kept_at is k ≡ interval Γ (tree_i ts k)

-- The hull of every array; 0..0 where there is none.
pub record Hulls (Γ : Declarations) (is : List Declared.Interval) : Type 0 where
  pub same : (a : ℕ) → kept_at is a ≡ elements_interval Γ (array_at Γ a).elements

-- document 01's number and record for each answer
abbrev pub refusal_of : Result Unit Beyond → Option Refusal
refusal_of (Ok _) = none
refusal_of (Err e) = refuse 8 e.0
