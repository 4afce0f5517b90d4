-- The constraints of a table that is translated, and P of each: Boolean nodes in which no slot is free.
use mathlib.Core.Path.{◌≡◌}
use Prim.Native.Nat.{ℕ, ◌<◌}
use mathlib.Core.Bool.{false}
use mathlib.Core.List.{List}
use lib.ListN.{length, get_or}
use Rattle.language.specs.Syntax.{boolean, Declarations}
use Rattle.language.specs.Readings.{Reading}
use Rattle.language.specs.Tables.{free_in, free_b, tree_b, trees}
use Rattle.rules.specs.TotalRows.{first_of, new_rows}
use Rattle.rules.specs.Soundness.{IsNode}
use Rattle.rules.proofs.FreeCompanions.{companions_without_B}
use Rattle.rules.proofs.Nodes.{IsNode→HasTree-bool}
use Rattle.rules.proofs.Translation.{logical-companions}
use Rattle.answers.specs.Sections.{slot_count, declarations, rows, node_trees, constraints}
use Rattle.answers.proofs.ConstraintsFit.{ClosedNode}
use Rattle.answers.proofs.Listed.{All-lookup}
use Rattle.answers.proofs.Passed.{Passed}

module _ (bs : List ℕ) (p : Passed bs) (i : ℕ) (l : i < length (constraints bs)) where
  -- the node that the i-th constraint names
  abbrev named : ℕ
  named = get_or (constraints bs) i 0

  -- It is Boolean,
  pub constraint-node : IsNode (rows bs) boolean named
  constraint-node = All-lookup (IsNode (rows bs) boolean) (constraints bs) 0 p.boolean_constraints i l

  -- and no slot is free in it.
  pub constraint-free : (t : ℕ) → t < slot_count bs → free_b t (tree_b (trees (rows bs)) named) ≡ false
  unfolding node_trees free_in
  constraint-free t b = rw (IsNode→HasTree-bool constraint-node).tree at (All-lookup (ClosedNode bs) (constraints bs) 0 p.closed_constraints i l t b)

  module _ (ρ : Reading) where
    -- the declarations of both tables
    abbrev Γ : Declarations
    Γ = declarations bs

    -- P of it is a Boolean node of the new table,
    pub P_node : IsNode (new_rows ρ Γ (rows bs)) boolean (first_of ρ Γ (rows bs) named)
    P_node = (logical-companions ρ Γ (rows bs) p.well_formed named constraint-node).P_node

    -- and no slot is free in that.
    pub P-free : (t : ℕ) → t < slot_count bs → free_b t (tree_b (trees (new_rows ρ Γ (rows bs))) (first_of ρ Γ (rows bs) named)) ≡ false
    P-free t b =
        rw (logical-companions ρ Γ (rows bs) p.well_formed named constraint-node).P_tree
        (companions_without_B ρ Γ t (tree_b (trees (rows bs)) named) (constraint-free t b)).0.not_free
