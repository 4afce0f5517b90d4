-- Total trees stay within the limit: where every expression in a tree has a value within the limit, a walk over it meets no number beyond the limit.
-- So evaluating a translation meets none.
use Prim.Native.Nat.{ℕ}
use mathlib.Core.Bool.{◌&&◌}
use mathlib.Core.List.{List}
use lib.Dec.{T}
use lib.IntN.{pos, ◌+ℤ◌}
use Rattle.numbers.proofs.Tests.{&&-intro}
use Rattle.language.specs.Syntax.{boolean, IExp, constant, variable, slot, arith, divide, negate, bool_to_int, lookup, sum, iref, BExp, truth, variable_b, lookup_b, connect, negation, compare, quantify, bref, Declarations}
use Rattle.language.specs.Readings.{Reading}
use Rattle.language.specs.Tables.{Row, tree_b, trees}
use Rattle.language.specs.Meaning.{Assignment, Setting, put, slot_at, count, value_i, value_within, throughout, met_within_i, met_within_b}
use Rattle.language.proofs.Ranges.{throughout-all}
use Rattle.rules.specs.TotalRows.{first_of, new_rows}
use Rattle.rules.specs.Soundness.{Fits, IsNode, WellFormed, Bounded}
use Rattle.rules.proofs.Claims.{TotalI, AllTotalI, AllTotalB}
use Rattle.rules.proofs.Intervals.{put-fits}
use Rattle.rules.proofs.SoundTables.{SoundB-tree_b, SoundTree-trees}
use Rattle.rules.proofs.Totality.{total-B}
use Rattle.rules.proofs.Translation.{logical-companions}

module _ (ρ : Reading) (Γ : Declarations) (α : Assignment) where
  -- The value of a total expression is within the limit.
  within-value : (e : IExp ⊥) → TotalI Γ α e → (σ : Setting) → Fits Γ α σ → T (value_within (value_i ρ Γ α e σ))
  unfolding TotalI value_within
  within-value e h σ f = let v = h ρ σ f in rw v.1 v.2

  mutual
    unfolding AllTotalI met_within_i value_i value_within

    -- No integer expression met in a total integer tree is beyond the limit,
    within-total-I : (e : IExp ⊥) → AllTotalI Γ α e → (σ : Setting) → Fits Γ α σ → T (met_within_i ρ Γ α e σ)
    within-total-I (constant z) h σ f = within-value (constant z) h σ f
    within-total-I (variable v) h σ f = within-value (variable v) h σ f
    within-total-I (slot s) h σ f = within-value (slot s) h σ f
    within-total-I (arith op a b) h σ f =
        &&-intro (met_within_i ρ Γ α a σ && met_within_i ρ Γ α b σ) (value_within (value_i ρ Γ α (arith op a b) σ))
        (&&-intro (met_within_i ρ Γ α a σ) (met_within_i ρ Γ α b σ) (within-total-I a h.0 σ f) (within-total-I b h.1 σ f)) (within-value (arith op a b) h.2 σ f)
    within-total-I (divide op a b) h σ f =
        &&-intro (met_within_i ρ Γ α a σ && met_within_i ρ Γ α b σ) (value_within (value_i ρ Γ α (divide op a b) σ))
        (&&-intro (met_within_i ρ Γ α a σ) (met_within_i ρ Γ α b σ) (within-total-I a h.0 σ f) (within-total-I b h.1 σ f)) (within-value (divide op a b) h.2 σ f)
    within-total-I (negate a) h σ f =
        &&-intro (met_within_i ρ Γ α a σ) (value_within (value_i ρ Γ α (negate a) σ)) (within-total-I a h.0 σ f) (within-value (negate a) h.1 σ f)
    within-total-I (bool_to_int a) h σ f = within-total-B a h.0 σ f
    within-total-I (lookup A i) h σ f =
        &&-intro (met_within_i ρ Γ α i σ) (value_within (value_i ρ Γ α (lookup A i) σ)) (within-total-I i h.0 σ f) (within-value (lookup A i) h.1 σ f)
    within-total-I (sum s a) h σ f =
        &&-intro (throughout (slot_at Γ s).low (count (slot_at Γ s)) (λ d. met_within_i ρ Γ α a (put σ s d))) (value_within (value_i ρ Γ α (sum s a) σ))
        (throughout-all (slot_at Γ s).low (count (slot_at Γ s)) (λ d. met_within_i ρ Γ α a (put σ s d))
        (λ k l. within-total-I a h.0 (put σ s ((slot_at Γ s).low +ℤ pos k)) (put-fits f s k l)))
        (within-value (sum s a) h.1 σ f)
    within-total-I (iref r) h σ f = absurd r

    -- and none met in a total Boolean tree.
    pub within-total-B : (e : BExp ⊥) → AllTotalB Γ α e → (σ : Setting) → Fits Γ α σ → T (met_within_b ρ Γ α e σ)
    within-total-B (truth b) h σ f = tt
    within-total-B (variable_b v) h σ f = tt
    within-total-B (lookup_b A i) h σ f = within-total-I i h.0 σ f
    within-total-B (connect c a b) h σ f = &&-intro (met_within_b ρ Γ α a σ) (met_within_b ρ Γ α b σ) (within-total-B a h.0 σ f) (within-total-B b h.1 σ f)
    within-total-B (negation a) h σ f = within-total-B a h.0 σ f
    within-total-B (compare c a b) h σ f = &&-intro (met_within_i ρ Γ α a σ) (met_within_i ρ Γ α b σ) (within-total-I a h.0 σ f) (within-total-I b h.1 σ f)
    within-total-B (quantify q s a) h σ f =
        throughout-all (slot_at Γ s).low (count (slot_at Γ s)) (λ d. met_within_b ρ Γ α a (put σ s d))
        (λ k l. within-total-B a h.0 (put σ s ((slot_at Γ s).low +ℤ pos k)) (put-fits f s k l))
    within-total-B (bref r) h σ f = absurd r

-- A walk over P of a Boolean node meets no number beyond the limit, whatever the reading.
pub within-P : (ρ ρ' : Reading) (Γ : Declarations) (rows : List Row) → WellFormed Γ rows → Bounded Γ (trees rows) → (α : Assignment) (σ : Setting) → Fits Γ α σ
    → (k : ℕ) → IsNode rows boolean k → T (met_within_b ρ' Γ α (tree_b (trees (new_rows ρ Γ rows)) (first_of ρ Γ rows k)) σ)
within-P ρ ρ' Γ rows wf bounded α σ fits k n =
    let sound = SoundB-tree_b Γ (trees rows) (SoundTree-trees Γ rows wf bounded) k in
    rw (logical-companions ρ Γ rows wf k n).P_tree (within-total-B ρ' Γ α _ (total-B ρ Γ α wf.declared (tree_b (trees rows) k) sound).0 σ fits)
