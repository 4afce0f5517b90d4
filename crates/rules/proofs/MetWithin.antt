-- A table whose bounds hold stays within the limit: evaluating it never meets a number beyond the limit.
use mathlib.Core.Path.{◌≡◌, refl, subst}
use mathlib.Core.Bool.{◌&&◌}
use mathlib.Core.Option.{Option, none, some}
use lib.Dec.{T}
use lib.IntN.{ℤ, pos, ◌+ℤ◌}
use Rattle.numbers.proofs.Tests.{&&-intro}
use Rattle.language.specs.Syntax.{IExp, constant, variable, slot, arith, divide, negate, bool_to_int, BExp, lookup, sum, iref, truth, variable_b, lookup_b, connect, negation, compare, quantify, bref, Declarations}
use Rattle.language.specs.Readings.{Reading}
use Rattle.language.specs.Meaning.{Assignment, Setting, put, slot_at, count, value_i, value_within, throughout, met_within_i, met_within_b}
use Rattle.language.proofs.Ranges.{throughout-all}
use Rattle.rules.specs.Bounds.{interval}
use Rattle.rules.specs.Soundness.{Within, Fits, Declared}
use Rattle.rules.proofs.Claims.{InBounds, SoundI, SoundB}
use Rattle.rules.proofs.Intervals.{within-limit, put-fits}
use Rattle.rules.proofs.Meaning.{means_I}

module _ (ρ : Reading) (Γ : Declarations) (α : Assignment) (declared : Declared Γ) where
  -- Each interval holds the value of its node, where the node is defined.
  pub value-within : (e : IExp ⊥) → SoundI Γ e → (σ : Setting) → Fits Γ α σ → (z : ℤ) → value_i ρ Γ α e σ ≡ some z → Within (interval Γ e) z
  value-within e s σ f z p = let m = means_I ρ ρ Γ α declared e s σ f in subst (Within (interval Γ e)) (m.V_agrees z p) m.V_within

  -- So no node's value is beyond the limit.
  within-value : (e : IExp ⊥) → SoundI Γ e → InBounds Γ e → (σ : Setting) → Fits Γ α σ → T (value_within (value_i ρ Γ α e σ))
  unfolding value_within
  within-value e s b σ f = go (value_i ρ Γ α e σ) (value-within e s σ f)
    where
      go : (v : Option ℤ) → ((z : ℤ) → v ≡ some z → Within (interval Γ e) z) → T (value_within v)
      go none w = tt
      go (some z) w = within-limit Γ e b (w z refl)

  mutual
    unfolding SoundI SoundB met_within_i met_within_b value_i value_within

    -- No integer node met on the way is beyond the limit either.
    pub within-I : (e : IExp ⊥) → SoundI Γ e → (σ : Setting) → Fits Γ α σ → T (met_within_i ρ Γ α e σ)
    within-I (constant z) s σ f = within-value (constant z) s s σ f
    within-I (variable v) s σ f = within-value (variable v) s s.1 σ f
    within-I (slot t) s σ f = within-value (slot t) s s.1 σ f
    within-I (arith op a b) s σ f =
        &&-intro (met_within_i ρ Γ α a σ && met_within_i ρ Γ α b σ) (value_within (value_i ρ Γ α (arith op a b) σ))
        (&&-intro (met_within_i ρ Γ α a σ) (met_within_i ρ Γ α b σ) (within-I a s.0 σ f) (within-I b s.1 σ f)) (within-value (arith op a b) s s.2 σ f)
    within-I (divide op a b) s σ f =
        &&-intro (met_within_i ρ Γ α a σ && met_within_i ρ Γ α b σ) (value_within (value_i ρ Γ α (divide op a b) σ))
        (&&-intro (met_within_i ρ Γ α a σ) (met_within_i ρ Γ α b σ) (within-I a s.0 σ f) (within-I b s.1 σ f)) (within-value (divide op a b) s s.2 σ f)
    within-I (negate a) s σ f = &&-intro (met_within_i ρ Γ α a σ) (value_within (value_i ρ Γ α (negate a) σ)) (within-I a s.0 σ f) (within-value (negate a) s s.1 σ f)
    within-I (bool_to_int a) s σ f = within-B a s σ f
    within-I (lookup A i) s σ f = &&-intro (met_within_i ρ Γ α i σ) (value_within (value_i ρ Γ α (lookup A i) σ)) (within-I i s.1 σ f) (within-value (lookup A i) s s.2 σ f)
    within-I (sum t a) s σ f =
        &&-intro (throughout (slot_at Γ t).low (count (slot_at Γ t)) (λ d. met_within_i ρ Γ α a (put σ t d))) (value_within (value_i ρ Γ α (sum t a) σ))
        (throughout-all (slot_at Γ t).low (count (slot_at Γ t)) (λ d. met_within_i ρ Γ α a (put σ t d)) (λ k l. within-I a s.1 (put σ t ((slot_at Γ t).low +ℤ pos k)) (put-fits f t k l)))
        (within-value (sum t a) s s.2 σ f)
    within-I (iref r) s σ f = absurd r

    -- Nor below a Boolean node.
    pub within-B : (e : BExp ⊥) → SoundB Γ e → (σ : Setting) → Fits Γ α σ → T (met_within_b ρ Γ α e σ)
    within-B (truth b) s σ f = tt
    within-B (variable_b v) s σ f = tt
    within-B (lookup_b A i) s σ f = within-I i s.1 σ f
    within-B (connect c a b) s σ f = &&-intro (met_within_b ρ Γ α a σ) (met_within_b ρ Γ α b σ) (within-B a s.0 σ f) (within-B b s.1 σ f)
    within-B (negation a) s σ f = within-B a s σ f
    within-B (compare c a b) s σ f = &&-intro (met_within_i ρ Γ α a σ) (met_within_i ρ Γ α b σ) (within-I a s.0 σ f) (within-I b s.1 σ f)
    within-B (quantify q t a) s σ f =
        throughout-all (slot_at Γ t).low (count (slot_at Γ t)) (λ d. met_within_b ρ Γ α a (put σ t d)) (λ k l. within-B a s.1 (put σ t ((slot_at Γ t).low +ℤ pos k)) (put-fits f t k l))
    within-B (bref r) s σ f = absurd r
