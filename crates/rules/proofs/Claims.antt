-- What is shown of trees: the claims that the lemmas of the rules establish and that the theorem about tables puts together.
use mathlib.Core.Path.{◌≡◌}
use mathlib.Core.Bool.{Bool}
use mathlib.Core.Option.{some}
use lib.Dec.{T}
use lib.IntN.{ℤ}
use Rattle.numbers.specs.Whole.{within_limit}
use Rattle.language.specs.Syntax.{boolean, integer, IExp, constant, variable, slot, arith, divide, negate, bool_to_int, lookup, sum, iref, BExp, truth, variable_b, lookup_b, connect, negation, compare, quantify, bref, Declarations}
use Rattle.language.specs.Readings.{Reading}
use Rattle.language.specs.Tables.{Tree, whole, bool}
use Rattle.language.specs.Meaning.{Assignment, Setting, value_i, value_b}
use Rattle.rules.specs.Bounds.{interval, within_bounds}
use Rattle.rules.specs.TotalRows.{defined, is_true, is_false}
use Rattle.rules.specs.Soundness.{Within, Fits, IsVariable, IsArray, IsSlot}
use Rattle.rules.proofs.Companions.{Vᵗ, Dᵗ, Pᵗ, Nᵗ}

-- ---- sound trees: what they name is declared, and every interval in them is within the limit

module _ (Γ : Declarations) where
  abbrev pub InBounds : IExp ⊥ → Type 0
  InBounds e = T (within_bounds Γ (whole e))

  unfoldable mutual
    pub SoundI : IExp ⊥ → Type 0
    SoundI (constant z) = InBounds (constant z)
    SoundI (variable v) = IsVariable Γ integer v × InBounds (variable v)
    SoundI (slot s) = IsSlot Γ s × InBounds (slot s)
    SoundI (arith op a b) = SoundI a × SoundI b × InBounds (arith op a b)
    SoundI (divide op a b) = SoundI a × SoundI b × InBounds (divide op a b)
    SoundI (negate a) = SoundI a × InBounds (negate a)
    SoundI (bool_to_int a) = SoundB a
    SoundI (lookup A i) = IsArray Γ integer A × SoundI i × InBounds (lookup A i)
    SoundI (sum s a) = IsSlot Γ s × SoundI a × InBounds (sum s a)
    SoundI (iref r) = absurd r

    pub SoundB : BExp ⊥ → Type 0
    SoundB (truth b) = Unit {0}
    SoundB (variable_b v) = IsVariable Γ boolean v
    SoundB (lookup_b A i) = IsArray Γ boolean A × SoundI i
    SoundB (connect c a b) = SoundB a × SoundB b
    SoundB (negation a) = SoundB a
    SoundB (compare c a b) = SoundI a × SoundI b
    SoundB (quantify q s a) = IsSlot Γ s × SoundB a
    SoundB (bref r) = absurd r

  unfoldable pub SoundTree : Tree → Type 0
  SoundTree (whole e) = SoundI e
  SoundTree (bool e) = SoundB e

-- ---- total trees: a value under every reading and at every setting that fits

module _ (Γ : Declarations) (α : Assignment) where
  unfoldable pub TotalI : IExp ⊥ → Type 0
  TotalI e = (ρ' : Reading) (σ : Setting) → Fits Γ α σ → (z : ℤ) × (value_i ρ' Γ α e σ ≡ some z) × T (within_limit z)

  unfoldable pub TotalB : BExp ⊥ → Type 0
  TotalB e = (ρ' : Reading) (σ : Setting) → Fits Γ α σ → (b : Bool) × (value_b ρ' Γ α e σ ≡ some b)

  -- and so has every expression below
  unfoldable mutual
    pub AllTotalI : IExp ⊥ → Type 0
    AllTotalI (constant z) = TotalI (constant z)
    AllTotalI (variable v) = TotalI (variable v)
    AllTotalI (slot s) = TotalI (slot s)
    AllTotalI (arith op a b) = AllTotalI a × AllTotalI b × TotalI (arith op a b)
    AllTotalI (divide op a b) = AllTotalI a × AllTotalI b × TotalI (divide op a b)
    AllTotalI (negate a) = AllTotalI a × TotalI (negate a)
    AllTotalI (bool_to_int a) = AllTotalB a × TotalI (bool_to_int a)
    AllTotalI (lookup A i) = AllTotalI i × TotalI (lookup A i)
    AllTotalI (sum s a) = AllTotalI a × TotalI (sum s a)
    AllTotalI (iref r) = absurd r

    pub AllTotalB : BExp ⊥ → Type 0
    AllTotalB (truth b) = TotalB (truth b)
    AllTotalB (variable_b v) = TotalB (variable_b v)
    AllTotalB (lookup_b A i) = AllTotalI i × TotalB (lookup_b A i)
    AllTotalB (connect c a b) = AllTotalB a × AllTotalB b × TotalB (connect c a b)
    AllTotalB (negation a) = AllTotalB a × TotalB (negation a)
    AllTotalB (compare c a b) = AllTotalI a × AllTotalI b × TotalB (compare c a b)
    AllTotalB (quantify q s a) = AllTotalB a × TotalB (quantify q s a)
    AllTotalB (bref r) = absurd r

  unfoldable pub TotalTree : Tree → Type 0
  TotalTree (whole e) = TotalI e
  TotalTree (bool e) = TotalB e

-- ---- what the companions of a tree mean

-- V has a value under ρ' and it lies in the node's interval; D is true exactly where the node is defined under ρ, and then V is its value.
pub record MeansI (ρ ρ' : Reading) (Γ : Declarations) (α : Assignment) (σ : Setting) (e : IExp ⊥) : Type 0 where
  pub value : ℤ
  pub V_is : value_i ρ' Γ α (Vᵗ ρ Γ e) σ ≡ some value
  pub V_within : Within (interval Γ e) value
  pub D_is : value_b ρ' Γ α (Dᵗ ρ Γ e) σ ≡ some (defined (value_i ρ Γ α e σ))
  pub V_agrees : (z : ℤ) → value_i ρ Γ α e σ ≡ some z → value ≡ z

-- P is true exactly where the node is true under ρ, N exactly where it is false; under relational, where a node is never undefined,
-- that is where it is not true.
pub record MeansB (ρ ρ' : Reading) (Γ : Declarations) (α : Assignment) (σ : Setting) (e : BExp ⊥) : Type 0 where
  pub P_is : value_b ρ' Γ α (Pᵗ ρ Γ e) σ ≡ some (is_true (value_b ρ Γ α e σ))
  pub N_is : value_b ρ' Γ α (Nᵗ ρ Γ e) σ ≡ some (is_false (value_b ρ Γ α e σ))
  pub relational_defined : ρ ≡ Reading.relational → T (defined (value_b ρ Γ α e σ))
