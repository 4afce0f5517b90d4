-- The companions of a sound tree mean what they should, whatever the reading ρ of the rules and the reading ρ' under which the companions
-- are worked out: by induction on the tree, a rule at each node.
use lib.IntN.{pos, ◌+ℤ◌}
use Rattle.language.specs.Syntax.{IExp, constant, variable, slot, arith, divide, negate, bool_to_int, BExp, lookup, sum, iref, truth, variable_b, lookup_b, connect, negation, compare, quantify, bref, Declarations}
use Rattle.language.specs.Readings.{Reading}
use Rattle.language.specs.Meaning.{Assignment, Setting, put, slot_at}
use Rattle.rules.specs.Soundness.{Fits, Declared}
use Rattle.rules.proofs.Claims.{SoundI, SoundB, MeansI, MeansB}
use Rattle.rules.proofs.Intervals.{put-fits}
use Rattle.rules.proofs.Connectives.{connect-means, negation-means}
use Rattle.rules.proofs.Quantifiers.{quantify-means}
use Rattle.rules.proofs.Guards.{compare-means, lookup-means, lookup_b-means}
use Rattle.rules.proofs.Operations.{constant-means, variable-means, slot-means, truth-means, variable_b-means, arith-means, negate-means, divide-means, bool_to_int-means}
use Rattle.rules.proofs.Sums.{sum-means}

module _ (ρ ρ' : Reading) (Γ : Declarations) (α : Assignment) (declared : Declared Γ) where
  mutual
    unfolding SoundI SoundB

    -- V and D of a sound integer tree.
    pub means_I : (e : IExp ⊥) → SoundI Γ e → (σ : Setting) → Fits Γ α σ → MeansI ρ ρ' Γ α σ e
    means_I (constant z) s σ f = constant-means z
    means_I (variable v) s σ f = variable-means s.0 f
    means_I (slot t) s σ f = slot-means t s.0 f
    means_I (arith op a b) s σ f = arith-means op (means_I a s.0 σ f) (means_I b s.1 σ f)
    means_I (divide op a b) s σ f = divide-means op (means_I a s.0 σ f) (means_I b s.1 σ f)
    means_I (negate a) s σ f = negate-means (means_I a s.0 σ f)
    means_I (bool_to_int a) s σ f = bool_to_int-means (means_B a s σ f)
    means_I (lookup A i) s σ f = lookup-means A (means_I i s.1 σ f) declared s.0.declared f
    means_I (sum t a) s σ f = sum-means σ t (λ k l. means_I a s.1 (put σ t ((slot_at Γ t).low +ℤ pos k)) (put-fits f t k l))
    means_I (iref r) s σ f = absurd r

    -- P and N of a sound Boolean tree.
    pub means_B : (e : BExp ⊥) → SoundB Γ e → (σ : Setting) → Fits Γ α σ → MeansB ρ ρ' Γ α σ e
    means_B (truth b) s σ f = truth-means b
    means_B (variable_b v) s σ f = variable_b-means v
    means_B (lookup_b A i) s σ f = lookup_b-means A (means_I i s.1 σ f) declared s.0.declared f
    means_B (connect c a b) s σ f = connect-means c (means_B a s.0 σ f) (means_B b s.1 σ f)
    means_B (negation a) s σ f = negation-means (means_B a s σ f)
    means_B (compare c a b) s σ f = compare-means c (means_I a s.0 σ f) (means_I b s.1 σ f)
    means_B (quantify q t a) s σ f = quantify-means q t (λ k l. means_B a s.1 (put σ t ((slot_at Γ t).low +ℤ pos k)) (put-fits f t k l))
    means_B (bref r) s σ f = absurd r
