-- What the translation of a well formed table is: both companions of each node are nodes of the new table and their trees are the companions
-- of the node's tree; the new table is well formed; and it is total where the companions are.
use mathlib.Core.Path.{◌≡◌, ap}
use Prim.Native.Nat.{ℕ}
use mathlib.Core.List.{List}
use lib.ListN.{length}
use Rattle.language.specs.Syntax.{boolean, integer, Declarations}
use Rattle.language.specs.Readings.{Reading}
use Rattle.language.specs.Tables.{Row, as_i, as_b, tree_i, tree_b, trees_after, trees}
use Rattle.language.specs.Meaning.{Assignment}
use Rattle.rules.specs.TotalRows.{first_of, second_of, new_rows}
use Rattle.rules.specs.Soundness.{All, IsNode, WellFormed}
use Rattle.rules.specs.Writing.{translate_rows}
use Rattle.rules.proofs.Companions.{Vᵗ, Dᵗ, Pᵗ, Nᵗ}
use Rattle.rules.proofs.Claims.{TotalTree}
use Rattle.rules.proofs.Nodes.{HasTree→IsNode}
use Rattle.rules.proofs.RulesStand.{V-place, D-place, P-place, N-place}
use Rattle.rules.proofs.Tracked.{CompanionsTotal, Tracked, translate_rows-tracked}

-- V and D of an integer node
pub record NumericCompanions (ρ : Reading) (Γ : Declarations) (rows : List Row) (k : ℕ) : Type 0 where
  pub V_node : IsNode (new_rows ρ Γ rows) integer (first_of ρ Γ rows k)
  pub D_node : IsNode (new_rows ρ Γ rows) boolean (second_of ρ Γ rows k)
  pub V_tree : tree_i (trees (new_rows ρ Γ rows)) (first_of ρ Γ rows k) ≡ Vᵗ ρ Γ (tree_i (trees rows) k)
  pub D_tree : tree_b (trees (new_rows ρ Γ rows)) (second_of ρ Γ rows k) ≡ Dᵗ ρ Γ (tree_i (trees rows) k)

-- P and N of a Boolean node
pub record LogicalCompanions (ρ : Reading) (Γ : Declarations) (rows : List Row) (k : ℕ) : Type 0 where
  pub P_node : IsNode (new_rows ρ Γ rows) boolean (first_of ρ Γ rows k)
  pub N_node : IsNode (new_rows ρ Γ rows) boolean (second_of ρ Γ rows k)
  pub P_tree : tree_b (trees (new_rows ρ Γ rows)) (first_of ρ Γ rows k) ≡ Pᵗ ρ Γ (tree_b (trees rows) k)
  pub N_tree : tree_b (trees (new_rows ρ Γ rows)) (second_of ρ Γ rows k) ≡ Nᵗ ρ Γ (tree_b (trees rows) k)

module _ (ρ : Reading) (Γ : Declarations) (rows : List Row) (wf : WellFormed Γ rows) where
  -- The translation tracks its table.
  tracked : Tracked ρ Γ rows (translate_rows ρ Γ rows)
  tracked = translate_rows-tracked ρ Γ rows wf.rows_fit

  -- A place is kept for the first companion of each node,
  pub length_firsts : length (translate_rows ρ Γ rows).firsts ≡ length rows
  length_firsts = tracked.length_firsts

  -- and for the second.
  pub length_seconds : length (translate_rows ρ Γ rows).seconds ≡ length rows
  length_seconds = tracked.length_seconds

  -- "An integer node gets V (number) and D (defined)": their trees are V and D of the node's tree.
  pub numeric-companions : (k : ℕ) → IsNode rows integer k → NumericCompanions ρ Γ rows k
  unfolding tree_i tree_b as_i as_b
  numeric-companions k n =
      let V-has = V-place ρ Γ (tracked.linked k n.earlier) n in
      let D-has = D-place ρ Γ (tracked.linked k n.earlier) n in
      record { V_node = HasTree→IsNode V-has; D_node = HasTree→IsNode D-has; V_tree = ap as_i V-has.tree; D_tree = ap as_b D-has.tree }

  -- "a Boolean one P (is true) and N (is false)": their trees are P and N of the node's tree.
  pub logical-companions : (k : ℕ) → IsNode rows boolean k → LogicalCompanions ρ Γ rows k
  unfolding tree_b as_b
  logical-companions k n =
      let P-has = P-place ρ Γ (tracked.linked k n.earlier) n in
      let N-has = N-place ρ Γ (tracked.linked k n.earlier) n in
      record { P_node = HasTree→IsNode P-has; N_node = HasTree→IsNode N-has; P_tree = ap as_b P-has.tree; N_tree = ap as_b N-has.tree }

  -- What is written passes the check's rules for nodes: "it is never refused by the check".
  pub WellFormed-new_rows : WellFormed Γ (new_rows ρ Γ rows)
  WellFormed-new_rows = record { declared = wf.declared; rows_fit = tracked.adds.fit }

  -- Where the companions of every tree have total parts, every tree of the new table is total.
  pub TotalTree-new_rows : (α : Assignment) → All (CompanionsTotal ρ Γ α) (trees rows) → All (TotalTree Γ α) (trees (new_rows ρ Γ rows))
  unfolding trees trees_after
  TotalTree-new_rows α all = tracked.adds.total α all tt
