-- Demand 3 over tables: the translation of a well formed table within its bounds meets the demand. And evaluating such a table never meets a
-- number beyond the limit.
use Prim.Native.Nat.{ℕ}
use mathlib.Core.List.{List}
use Rattle.language.specs.Syntax.{boolean, integer, Declarations}
use Rattle.language.specs.Readings.{Reading}
use Rattle.language.specs.Tables.{Row, Tree, whole, bool, tree_i, tree_b, trees}
use Rattle.language.specs.Meaning.{Assignment, Setting}
use Rattle.rules.specs.TotalRows.{HasValue, StaysWithin, new_rows, NumberTold, TruthTold, TotalRows}
use Rattle.rules.specs.Soundness.{Fits, All, Declared, IsNode, WellFormed, Bounded}
use Rattle.rules.proofs.MetWithin.{within-I, within-B}
use Rattle.rules.proofs.Claims.{SoundTree, TotalI, TotalB, TotalTree}
use Rattle.rules.proofs.Every.{All-map}
use Rattle.rules.proofs.Meaning.{means_I, means_B}
use Rattle.rules.proofs.SoundTables.{SoundI-tree_i, SoundB-tree_b, SoundTree-trees}
use Rattle.rules.proofs.Totality.{total-I, total-B}
use Rattle.rules.proofs.Tracked.{CompanionsTotal}
use Rattle.rules.proofs.Translation.{numeric-companions, logical-companions, TotalTree-new_rows}

-- A total tree has a value.
TotalTree→HasValue : (ρ' : Reading) (Γ : Declarations) (α : Assignment) (σ : Setting) → Fits Γ α σ → (t : Tree) → TotalTree Γ α t
    → HasValue ρ' Γ α σ t
unfolding TotalTree TotalI TotalB
TotalTree→HasValue ρ' Γ α σ fits (whole e) h = h ρ' σ fits
TotalTree→HasValue ρ' Γ α σ fits (bool e) h = h ρ' σ fits

-- The companions of a sound tree have total parts.
SoundTree→CompanionsTotal : (ρ : Reading) (Γ : Declarations) (α : Assignment) → Declared Γ → (t : Tree) → SoundTree Γ t → CompanionsTotal ρ Γ α t
unfolding SoundTree
SoundTree→CompanionsTotal ρ Γ α d (whole e) s = total-I ρ Γ α d e s
SoundTree→CompanionsTotal ρ Γ α d (bool e) s = total-B ρ Γ α d e s

-- Evaluating a sound tree meets no number beyond the limit.
SoundTree→StaysWithin : (ρ : Reading) (Γ : Declarations) (α : Assignment) → Declared Γ → (σ : Setting) → Fits Γ α σ → (t : Tree)
    → SoundTree Γ t → StaysWithin ρ Γ α σ t
unfolding SoundTree
SoundTree→StaysWithin ρ Γ α d σ fits (whole e) s = within-I ρ Γ α d e s σ fits
SoundTree→StaysWithin ρ Γ α d σ fits (bool e) s = within-B ρ Γ α d e s σ fits

module _ (ρ : Reading) (Γ : Declarations) (rows : List Row) (wf : WellFormed Γ rows) (bounded : Bounded Γ (trees rows))
    (α : Assignment) (σ : Setting) (fits : Fits Γ α σ) where
  -- Evaluating a table whose bounds hold never meets a number beyond the limit.
  pub bounded-table-stays-within : All (StaysWithin ρ Γ α σ) (trees rows)
  bounded-table-stays-within = All-map (SoundTree→StaysWithin ρ Γ α wf.declared σ fits) (trees rows) (SoundTree-trees Γ rows wf bounded)

  module _ (ρ' : Reading) where
    -- Every node of the new table has a value.
    new_rows-values : All (HasValue ρ' Γ α σ) (trees (new_rows ρ Γ rows))
    new_rows-values =
        All-map (TotalTree→HasValue ρ' Γ α σ fits) (trees (new_rows ρ Γ rows))
        (TotalTree-new_rows ρ Γ rows wf α (All-map (SoundTree→CompanionsTotal ρ Γ α wf.declared) (trees rows) (SoundTree-trees Γ rows wf bounded)))

    -- V and D tell what an integer node is.
    new_rows-numbers : (k : ℕ) → IsNode rows integer k → NumberTold ρ ρ' Γ α σ rows k
    new_rows-numbers k n =
        let c = numeric-companions ρ Γ rows wf k n in
        let m = means_I ρ ρ' Γ α wf.declared (tree_i (trees rows) k) (SoundI-tree_i Γ (trees rows) (SoundTree-trees Γ rows wf bounded) k) σ fits in
        record { value = m.value; V_is = rw c.V_tree m.V_is; V_within = m.V_within; D_is = rw c.D_tree m.D_is; V_agrees = m.V_agrees }

    -- P and N tell what a Boolean node is.
    new_rows-truths : (k : ℕ) → IsNode rows boolean k → TruthTold ρ ρ' Γ α σ rows k
    new_rows-truths k n =
        let c = logical-companions ρ Γ rows wf k n in
        let m = means_B ρ ρ' Γ α wf.declared (tree_b (trees rows) k) (SoundB-tree_b Γ (trees rows) (SoundTree-trees Γ rows wf bounded) k) σ fits in
        record { P_is = rw c.P_tree m.P_is; N_is = rw c.N_tree m.N_is; relational_defined = m.relational_defined }

    -- The translation of a well formed table within its bounds meets the demand, at every assignment within the domains.
    pub rows-total : TotalRows ρ ρ' Γ α σ rows
    rows-total = record { values = new_rows-values; numbers = new_rows-numbers; truths = new_rows-truths }
