-- An expression does not depend on slots that are not free in it: settings that agree on its free slots give it the same value, and the
-- same answer to whether a walk stays within the limit.
use mathlib.Core.Path.{◌≡◌, refl, ap, ap₂, fun_ext}
use Prim.Native.Nat.{ℕ}
use mathlib.Core.Bool.{Bool, true, false, not, cond, ◌&&◌, ◌||◌}
use mathlib.Core.Option.{some}
use lib.Dec.{T, eqb, eqb_refl}
use lib.IntN.{ℤ}
use Rattle.language.specs.Syntax.{IExp, constant, variable, slot, arith, divide, negate, bool_to_int, lookup, sum, iref, BExp, truth, variable_b, lookup_b, connect, negation, compare, quantify, bref, Declarations}
use Rattle.language.specs.Tables.{free_i, free_b}
use Rattle.language.specs.Readings.{Reading, summed, quantified}
use Rattle.language.specs.Meaning.{Assignment, Setting, put, slot_at, count, value_i, value_b, value_within, throughout, met_within_i, met_within_b}

-- the settings agree on the slots that the test picks
abbrev pub AgreeOn : (ℕ → Bool) → Setting → Setting → Type 0
AgreeOn F σ τ = (t : ℕ) → T (F t) → σ t ≡ τ t

-- Of two tests one passes if the first does,
||-left : (a b : Bool) → T a → T (a || b)
||-left true b t = tt
||-left false b t = absurd t

-- or the second.
||-right : (a b : Bool) → T b → T (a || b)
||-right true b t = tt
||-right false b t = t

module _ (F G : ℕ → Bool) {σ τ : Setting} where
  -- Settings that agree on the free slots of two operands agree on those of the first,
  AgreeOn-left : AgreeOn (λ t. F t || G t) σ τ → AgreeOn F σ τ
  AgreeOn-left h t f = h t (||-left (F t) (G t) f)

  -- and on those of the second.
  AgreeOn-right : AgreeOn (λ t. F t || G t) σ τ → AgreeOn G σ τ
  AgreeOn-right h t g = h t (||-right (F t) (G t) g)

-- Settings that agree on the free slots of a quantifier agree on those of its body, once its slot is put to the same value in both.
AgreeOn-put : (F : ℕ → Bool) {σ τ : Setting} (s : ℕ) → AgreeOn (λ t. not (eqb t s) && F t) σ τ → (d : ℤ) → AgreeOn F (put σ s d) (put τ s d)
unfolding put
AgreeOn-put F {σ} {τ} s h d t f = go (eqb t s) (h t)
  where
    go : (b : Bool) → (T (not b && F t) → σ t ≡ τ t) → cond b d (σ t) ≡ cond b d (τ t)
    go true k = refl
    go false k = k f

-- the free slots of an expression
abbrev pub in_i : IExp ⊥ → ℕ → Bool
in_i e t = free_i t e

abbrev pub in_b : BExp ⊥ → ℕ → Bool
in_b e t = free_b t e

module _ (ρ : Reading) (Γ : Declarations) (α : Assignment) where
  mutual
    unfolding value_i free_i

    -- The value of an integer expression depends on its free slots alone.
    pub value_i-agree : (e : IExp ⊥) (σ τ : Setting) → AgreeOn (in_i e) σ τ → value_i ρ Γ α e σ ≡ value_i ρ Γ α e τ
    value_i-agree (constant z) σ τ h = refl
    value_i-agree (variable v) σ τ h = refl
    value_i-agree (slot s) σ τ h = ap some (h s (eqb_refl s))
    value_i-agree (arith op a b) σ τ h = rw (value_i-agree a σ τ (AgreeOn-left (in_i a) (in_i b) h), value_i-agree b σ τ (AgreeOn-right (in_i a) (in_i b) h))
    value_i-agree (divide op a b) σ τ h = rw (value_i-agree a σ τ (AgreeOn-left (in_i a) (in_i b) h), value_i-agree b σ τ (AgreeOn-right (in_i a) (in_i b) h))
    value_i-agree (negate a) σ τ h = rw (value_i-agree a σ τ h)
    value_i-agree (bool_to_int a) σ τ h = rw (value_b-agree a σ τ h)
    value_i-agree (lookup A i) σ τ h = rw (value_i-agree i σ τ h)
    value_i-agree (sum s a) σ τ h =
        ap (summed (slot_at Γ s).low (count (slot_at Γ s)))
        (fun_ext (λ d. value_i-agree a (put σ s d) (put τ s d) (AgreeOn-put (in_i a) s h d)))
    value_i-agree (iref r) σ τ h = absurd r

    -- The value of a Boolean expression likewise.
    pub value_b-agree : (e : BExp ⊥) (σ τ : Setting) → AgreeOn (in_b e) σ τ → value_b ρ Γ α e σ ≡ value_b ρ Γ α e τ
    value_b-agree (truth b) σ τ h = refl
    value_b-agree (variable_b v) σ τ h = refl
    value_b-agree (lookup_b A i) σ τ h = rw (value_i-agree i σ τ h)
    value_b-agree (connect c a b) σ τ h = rw (value_b-agree a σ τ (AgreeOn-left (in_b a) (in_b b) h), value_b-agree b σ τ (AgreeOn-right (in_b a) (in_b b) h))
    value_b-agree (negation a) σ τ h = rw (value_b-agree a σ τ h)
    value_b-agree (compare c a b) σ τ h = rw (value_i-agree a σ τ (AgreeOn-left (in_i a) (in_i b) h), value_i-agree b σ τ (AgreeOn-right (in_i a) (in_i b) h))
    value_b-agree (quantify q s a) σ τ h =
        ap (quantified ρ q (slot_at Γ s).low (count (slot_at Γ s)))
        (fun_ext (λ d. value_b-agree a (put σ s d) (put τ s d) (AgreeOn-put (in_b a) s h d)))
    value_b-agree (bref r) σ τ h = absurd r

  mutual
    unfolding met_within_i free_i

    -- Whether a walk over an integer expression stays within the limit depends on its free slots alone.
    pub met_within_i-agree : (e : IExp ⊥) (σ τ : Setting) → AgreeOn (in_i e) σ τ → met_within_i ρ Γ α e σ ≡ met_within_i ρ Γ α e τ
    met_within_i-agree (constant z) σ τ h = refl
    met_within_i-agree (variable v) σ τ h = refl
    met_within_i-agree (slot s) σ τ h = rw (h s (eqb_refl s))
    met_within_i-agree (arith op a b) σ τ h =
        rw (met_within_i-agree a σ τ (AgreeOn-left (in_i a) (in_i b) h), met_within_i-agree b σ τ (AgreeOn-right (in_i a) (in_i b) h), value_i-agree (arith op a b) σ τ h)
    met_within_i-agree (divide op a b) σ τ h =
        rw (met_within_i-agree a σ τ (AgreeOn-left (in_i a) (in_i b) h), met_within_i-agree b σ τ (AgreeOn-right (in_i a) (in_i b) h), value_i-agree (divide op a b) σ τ h)
    met_within_i-agree (negate a) σ τ h = rw (met_within_i-agree a σ τ h, value_i-agree (negate a) σ τ h)
    met_within_i-agree (bool_to_int a) σ τ h = met_within_b-agree a σ τ h
    met_within_i-agree (lookup A i) σ τ h = rw (met_within_i-agree i σ τ h, value_i-agree (lookup A i) σ τ h)
    met_within_i-agree (sum s a) σ τ h =
        ap₂ ◌&&◌
        (ap (throughout (slot_at Γ s).low (count (slot_at Γ s)))
        (fun_ext (λ d. met_within_i-agree a (put σ s d) (put τ s d) (AgreeOn-put (in_i a) s h d))))
        (ap value_within (value_i-agree (sum s a) σ τ h))
    met_within_i-agree (iref r) σ τ h = absurd r

    -- And over a Boolean expression.
    pub met_within_b-agree : (e : BExp ⊥) (σ τ : Setting) → AgreeOn (in_b e) σ τ → met_within_b ρ Γ α e σ ≡ met_within_b ρ Γ α e τ
    met_within_b-agree (truth b) σ τ h = refl
    met_within_b-agree (variable_b v) σ τ h = refl
    met_within_b-agree (lookup_b A i) σ τ h = met_within_i-agree i σ τ h
    met_within_b-agree (connect c a b) σ τ h = rw (met_within_b-agree a σ τ (AgreeOn-left (in_b a) (in_b b) h), met_within_b-agree b σ τ (AgreeOn-right (in_b a) (in_b b) h))
    met_within_b-agree (negation a) σ τ h = met_within_b-agree a σ τ h
    met_within_b-agree (compare c a b) σ τ h = rw (met_within_i-agree a σ τ (AgreeOn-left (in_i a) (in_i b) h), met_within_i-agree b σ τ (AgreeOn-right (in_i a) (in_i b) h))
    met_within_b-agree (quantify q s a) σ τ h =
        ap (throughout (slot_at Γ s).low (count (slot_at Γ s)))
        (fun_ext (λ d. met_within_b-agree a (put σ s d) (put τ s d) (AgreeOn-put (in_b a) s h d)))
    met_within_b-agree (bref r) σ τ h = absurd r
