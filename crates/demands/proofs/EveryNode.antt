-- Every node of a table: where each has a value within the limit at every setting that fits, a walk over each meets no number beyond the limit;
-- and a node needs a setting of its own free slots only.
use mathlib.Core.Path.{◌≡◌, refl}
use Prim.Native.Nat.{ℕ}
use mathlib.Core.Bool.{Bool, true, false, cond, ◌&&◌}
use mathlib.Core.List.{List, [], ◌∷◌, ◌++◌}
use lib.Dec.{T}
use lib.IntN.{pos, ◌+ℤ◌}
use Rattle.numbers.specs.Whole.{within_limit}
use Rattle.numbers.proofs.Tests.{&&-intro}
use Rattle.language.specs.Syntax.{IExp, constant, variable, slot, arith, divide, negate, lookup, sum, BExp, Declarations}
use Rattle.language.specs.Readings.{Reading}
use Rattle.language.specs.Tables.{Row, constant_row, variable_row, slot_row, arith_row, divide_row, negate_row, bool_to_int_row, lookup_row, sum_row, truth_row, variable_b_row, lookup_b_row, connect_row, negation_row, compare_row, quantify_row, Tree, whole, bool, as_i, as_b, tree_at, tree_i, tree_b, fill, trees_after, trees, free_in}
use Rattle.language.specs.Meaning.{Assignment, Setting, put, slot_at, count, value_i, value_within, throughout, met_within_i, met_within_b}
use Rattle.language.proofs.FreeSlots.{AgreeOn, value_i-agree, value_b-agree, met_within_i-agree, met_within_b-agree}
use Rattle.language.proofs.Ranges.{throughout-all}
use Rattle.rules.specs.Bounds.{slot_interval}
use Rattle.rules.specs.Soundness.{Within, Fits, All, IsSlot}
use Rattle.rules.specs.TotalRows.{HasValue, StaysWithin}
use Rattle.rules.proofs.Every.{All-snoc, All-unsnoc, All-get_d}
use Rattle.rules.proofs.Intervals.{put-fits}
use Rattle.rules.proofs.LowEnds.{low_setting, low_setting-within}
use Rattle.demands.specs.Demands.{SetsFree}

module _ (ρ : Reading) (Γ : Declarations) (α : Assignment) where
  -- at every setting that fits
  abbrev pub Valued : Tree → Type 0
  Valued t = (σ : Setting) → Fits Γ α σ → HasValue ρ Γ α σ t

  abbrev pub Stays : Tree → Type 0
  Stays t = (σ : Setting) → Fits Γ α σ → StaysWithin ρ Γ α σ t

  abbrev MetWithinI : IExp ⊥ → Type 0
  MetWithinI e = (σ : Setting) → Fits Γ α σ → T (met_within_i ρ Γ α e σ)

  abbrev MetWithinB : BExp ⊥ → Type 0
  MetWithinB e = (σ : Setting) → Fits Γ α σ → T (met_within_b ρ Γ α e σ)

  -- ---- no number beyond the limit

  -- A node's own value is within the limit.
  within-own : (e : IExp ⊥) → Valued (whole e) → (σ : Setting) → Fits Γ α σ → T (value_within (value_i ρ Γ α e σ))
  unfolding value_within
  within-own e h σ f = let v = h σ f in rw v.1 v.2

  -- What stands for an operand in a table that stays within stays within too.
  as_i-within : (t : Tree) → Stays t → MetWithinI (as_i t)
  unfolding as_i met_within_i within_limit
  as_i-within (whole e) h = h
  as_i-within (bool e) h = λ σ f. tt

  as_b-within : (t : Tree) → Stays t → MetWithinB (as_b t)
  unfolding as_b met_within_i
  as_b-within (whole e) h = λ σ f. tt
  as_b-within (bool e) h = h

  zero-stays : Stays (whole (constant (pos 0)))
  unfolding met_within_i within_limit
  zero-stays σ f = tt

  module _ (ts : List Tree) (h : All Stays ts) where
    node-I : (k : ℕ) → MetWithinI (tree_i ts k)
    unfolding tree_i tree_at
    node-I k = as_i-within (tree_at ts k) (All-get_d Stays ts _ h zero-stays k)

    node-B : (k : ℕ) → MetWithinB (tree_b ts k)
    unfolding tree_b tree_at
    node-B k = as_b-within (tree_at ts k) (All-get_d Stays ts _ h zero-stays k)

    -- over a slot's values
    over-I : (s a : ℕ) (σ : Setting) → Fits Γ α σ → T (throughout (slot_at Γ s).low (count (slot_at Γ s)) (λ d. met_within_i ρ Γ α (tree_i ts a) (put σ s d)))
    over-I s a σ f = throughout-all (slot_at Γ s).low (count (slot_at Γ s)) (λ d. met_within_i ρ Γ α (tree_i ts a) (put σ s d)) (λ k l. node-I a (put σ s ((slot_at Γ s).low +ℤ pos k)) (put-fits f s k l))

    over-B : (s a : ℕ) (σ : Setting) → Fits Γ α σ → T (throughout (slot_at Γ s).low (count (slot_at Γ s)) (λ d. met_within_b ρ Γ α (tree_b ts a) (put σ s d)))
    over-B s a σ f = throughout-all (slot_at Γ s).low (count (slot_at Γ s)) (λ d. met_within_b ρ Γ α (tree_b ts a) (put σ s d)) (λ k l. node-B a (put σ s ((slot_at Γ s).low +ℤ pos k)) (put-fits f s k l))

    both-I : (a b : ℕ) (σ : Setting) → Fits Γ α σ → T (met_within_i ρ Γ α (tree_i ts a) σ && met_within_i ρ Γ α (tree_i ts b) σ)
    both-I a b σ f = &&-intro (met_within_i ρ Γ α (tree_i ts a) σ) (met_within_i ρ Γ α (tree_i ts b) σ) (node-I a σ f) (node-I b σ f)

    -- A row over such nodes whose own value is within the limit stays within.
    fill-stays : (r : Row) → Valued (fill ts r) → Stays (fill ts r)
    unfolding fill met_within_i value_i value_within
    fill-stays (constant_row z) v σ f = within-own (constant z) v σ f
    fill-stays (variable_row x) v σ f = within-own (variable x) v σ f
    fill-stays (slot_row s) v σ f = within-own (slot s) v σ f
    fill-stays (arith_row op a b) v σ f = &&-intro (met_within_i ρ Γ α (tree_i ts a) σ && met_within_i ρ Γ α (tree_i ts b) σ) _ (both-I a b σ f) (within-own (arith op (tree_i ts a) (tree_i ts b)) v σ f)
    fill-stays (divide_row op a b) v σ f = &&-intro (met_within_i ρ Γ α (tree_i ts a) σ && met_within_i ρ Γ α (tree_i ts b) σ) _ (both-I a b σ f) (within-own (divide op (tree_i ts a) (tree_i ts b)) v σ f)
    fill-stays (negate_row a) v σ f = &&-intro (met_within_i ρ Γ α (tree_i ts a) σ) _ (node-I a σ f) (within-own (negate (tree_i ts a)) v σ f)
    fill-stays (bool_to_int_row a) v σ f = node-B a σ f
    fill-stays (lookup_row A i) v σ f = &&-intro (met_within_i ρ Γ α (tree_i ts i) σ) _ (node-I i σ f) (within-own (lookup A (tree_i ts i)) v σ f)
    fill-stays (sum_row s a) v σ f =
        &&-intro (throughout (slot_at Γ s).low (count (slot_at Γ s)) (λ d. met_within_i ρ Γ α (tree_i ts a) (put σ s d))) _ (over-I s a σ f) (within-own (sum s (tree_i ts a)) v σ f)
    fill-stays (truth_row b) v σ f = tt
    fill-stays (variable_b_row x) v σ f = tt
    fill-stays (lookup_b_row A i) v σ f = node-I i σ f
    fill-stays (connect_row c a b) v σ f = &&-intro (met_within_b ρ Γ α (tree_b ts a) σ) (met_within_b ρ Γ α (tree_b ts b) σ) (node-B a σ f) (node-B b σ f)
    fill-stays (negation_row a) v σ f = node-B a σ f
    fill-stays (compare_row c a b) v σ f = both-I a b σ f
    fill-stays (quantify_row q s a) v σ f = over-B s a σ f

  -- What holds of a table's nodes holds of those of its first rows.
  All-before : (P : Tree → Type 0) (ts : List Tree) (rs : List Row) → All P (trees_after ts rs) → All P ts
  unfolding trees_after
  All-before P ts [] h = h
  All-before P ts (r ∷ rs) h = (All-unsnoc P ts (All-before P (ts ++ (fill ts r ∷ [])) rs h)).0

  stays_after : (ts : List Tree) (rs : List Row) → All Stays ts → All Valued (trees_after ts rs) → All Stays (trees_after ts rs)
  unfolding trees_after
  stays_after ts [] h v = h
  stays_after ts (r ∷ rs) h v =
      stays_after (ts ++ (fill ts r ∷ [])) rs
      (All-snoc Stays ts h (fill-stays ts h r (All-unsnoc Valued ts (All-before Valued (ts ++ (fill ts r ∷ [])) rs v)).1)) v

  -- A table each of whose nodes has a value within the limit stays within at each.
  pub valued→stays : (rs : List Row) → All Valued (trees rs) → All Stays (trees rs)
  unfolding trees
  valued→stays rs v = stays_after [] rs tt v

  -- ---- the free slots alone

  module _ (variables-fit : Fits Γ α (low_setting Γ)) (t : Tree) (σ : Setting) (set : SetsFree Γ t σ) where
    -- the setting, with every slot that is not free in the node at its low end
    unfoldable filled : Setting
    filled s = cond (free_in s t) (σ s) (low_setting Γ s)

    filled-fits : Fits Γ α filled
    unfolding filled
    filled-fits = record { variables = variables-fit.variables; slots = λ s b. go s b (free_in s t) (set s) }
      where
        go : (s : ℕ) → IsSlot Γ s → (b : Bool) → (T b → Within (slot_interval (slot_at Γ s)) (σ s)) → Within (slot_interval (slot_at Γ s)) (cond b (σ s) (low_setting Γ s))
        go s d true w = w tt
        go s d false w = low_setting-within Γ s d

    filled-agrees : AgreeOn (λ s. free_in s t) σ filled
    unfolding filled
    filled-agrees s f = go (free_in s t) f
      where
        go : (b : Bool) → T b → σ s ≡ cond b (σ s) (low_setting Γ s)
        go true g = refl
        go false g = absurd g

  module _ (variables-fit : Fits Γ α (low_setting Γ)) where
    -- A node that has a value at every setting that fits has one at every setting of its free slots,
    pub HasValue-free : (t : Tree) → Valued t → (σ : Setting) → SetsFree Γ t σ → HasValue ρ Γ α σ t
    unfolding free_in
    HasValue-free (whole e) h σ set =
        let τ : Setting = filled variables-fit (whole e) σ set in
        let v = h τ (filled-fits variables-fit (whole e) σ set) in
        rw (value_i-agree ρ Γ α e σ τ (filled-agrees variables-fit (whole e) σ set)) v
    HasValue-free (bool e) h σ set =
        let τ : Setting = filled variables-fit (bool e) σ set in
        let v = h τ (filled-fits variables-fit (bool e) σ set) in
        rw (value_b-agree ρ Γ α e σ τ (filled-agrees variables-fit (bool e) σ set)) v

    -- and a walk over it stays within the limit there, if it does at every setting that fits.
    pub StaysWithin-free : (t : Tree) → Stays t → (σ : Setting) → SetsFree Γ t σ → StaysWithin ρ Γ α σ t
    unfolding free_in
    StaysWithin-free (whole e) h σ set =
        let τ : Setting = filled variables-fit (whole e) σ set in
        rw (met_within_i-agree ρ Γ α e σ τ (filled-agrees variables-fit (whole e) σ set)) (h τ (filled-fits variables-fit (whole e) σ set))
    StaysWithin-free (bool e) h σ set =
        let τ : Setting = filled variables-fit (bool e) σ set in
        rw (met_within_b-agree ρ Γ α e σ τ (filled-agrees variables-fit (bool e) σ set)) (h τ (filled-fits variables-fit (bool e) σ set))
