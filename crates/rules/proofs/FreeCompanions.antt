-- A slot that is not free in a tree is not free in its companions.
use mathlib.Core.Path.{◌≡◌, refl}
use Prim.Native.Nat.{ℕ}
use mathlib.Core.Bool.{Bool, true, false, not, ◌&&◌, ◌||◌}
use lib.Dec.{eqb}
use Rattle.language.specs.Syntax.{Connective, conj, disj, implies, iff, Comparison, Quantifier, exists, forall, IExp, constant, variable, slot, arith, divide, negate, bool_to_int, lookup, sum, iref, BExp, truth, variable_b, lookup_b, connect, negation, compare, quantify, bref, Declarations}
use Rattle.language.specs.Readings.{Reading, strict, kleene, relational}
use Rattle.language.specs.Tables.{free_i, free_b}
use Rattle.rules.specs.Formulas.{divide_v, divide_d, inside, clamped, refuted, behind, settled, connect_p, connect_n, quantify_p, quantify_n}
use Rattle.rules.proofs.Companions.{guard_of, index_of, Vᵗ, Dᵗ, Pᵗ, Nᵗ}

-- the slot t is not free in the expression
pub record WithoutI (t : ℕ) (e : IExp ⊥) : Type 0 where
  pub not_free : free_i t e ≡ false

pub record WithoutB (t : ℕ) (e : BExp ⊥) : Type 0 where
  pub not_free : free_b t e ≡ false

-- Where one of two is not, neither is.
||-false : (a b : Bool) → (a || b) ≡ false → (a ≡ false) × (b ≡ false)
||-false true b h = (h, cc)
||-false false b h = (refl, h)

-- Under a binder nothing is free that is not free in the body; what is free there may be bound.
bound-false : (b f g : Bool) → (b && f) ≡ false → (f ≡ false → g ≡ false) → (b && g) ≡ false
bound-false true f g h k = k h
bound-false false f g h k = refl

module _ {t : ℕ} where
  -- ---- one operator

  -- a connective,
  connect-without : (c : Connective) {a b : BExp ⊥} → WithoutB t a → WithoutB t b → WithoutB t (connect c a b)
  unfolding free_b
  connect-without c a b = record { not_free = rw (a.not_free, b.not_free) }

  -- a comparison,
  compare-without : (c : Comparison) {a b : IExp ⊥} → WithoutI t a → WithoutI t b → WithoutB t (compare c a b)
  unfolding free_b
  compare-without c a b = record { not_free = rw (a.not_free, b.not_free) }

  -- a negation,
  negation-without : {a : BExp ⊥} → WithoutB t a → WithoutB t (negation a)
  unfolding free_b
  negation-without a = record { not_free = a.not_free }

  -- a quantifier: f says whether t is free in a body from which the new body comes.
  quantify-without : (q : Quantifier) (s : ℕ) (f : Bool) {a : BExp ⊥} → (not (eqb t s) && f) ≡ false → (f ≡ false → WithoutB t a) → WithoutB t (quantify q s a)
  unfolding free_b
  quantify-without q s f {a} h k = record { not_free = bound-false (not (eqb t s)) f (free_b t a) h (λ e. (k e).not_free) }

  -- ---- the right-hand sides of document 01's rules

  -- N of a comparison or Boolean lookup.
  refuted-without : (ρ : Reading) {g e P : BExp ⊥} → WithoutB t g → WithoutB t e → WithoutB t P → WithoutB t (refuted ρ g e P)
  unfolding refuted
  refuted-without strict g e P = connect-without conj g (negation-without e)
  refuted-without kleene g e P = connect-without conj g (negation-without e)
  refuted-without relational g e P = negation-without P

  -- What strict puts in front.
  behind-without : (ρ : Reading) {B e : BExp ⊥} → WithoutB t B → WithoutB t e → WithoutB t (behind ρ B e)
  unfolding behind
  behind-without strict b e = connect-without conj b e
  behind-without kleene b e = e
  behind-without relational b e = e

  module _ {Pa Na Pb Nb : BExp ⊥} (pa : WithoutB t Pa) (na : WithoutB t Na) (pb : WithoutB t Pb) (nb : WithoutB t Nb) where
    -- B of strict.
    settled-without : WithoutB t (settled Pa Na Pb Nb)
    unfolding settled
    settled-without = connect-without conj (connect-without disj pa na) (connect-without disj pb nb)

    -- P of a connective.
    connect_p-without : (ρ : Reading) (c : Connective) → WithoutB t (connect_p ρ c Pa Na Pb Nb)
    unfolding connect_p
    connect_p-without ρ conj = connect-without conj pa pb
    connect_p-without ρ disj = behind-without ρ settled-without (connect-without disj pa pb)
    connect_p-without ρ implies = behind-without ρ settled-without (connect-without disj na pb)
    connect_p-without ρ iff = connect-without disj (connect-without conj pa pb) (connect-without conj na nb)

    -- N of a connective.
    connect_n-without : (ρ : Reading) (c : Connective) → WithoutB t (connect_n ρ c Pa Na Pb Nb)
    unfolding connect_n
    connect_n-without ρ conj = behind-without ρ settled-without (connect-without disj na nb)
    connect_n-without ρ disj = connect-without conj na nb
    connect_n-without ρ implies = connect-without conj pa nb
    connect_n-without ρ iff = connect-without disj (connect-without conj pa nb) (connect-without conj na pb)

  module _ (s : ℕ) (f : Bool) {Pa Na : BExp ⊥} (h : (not (eqb t s) && f) ≡ false) (pa : f ≡ false → WithoutB t Pa) (na : f ≡ false → WithoutB t Na) where
    -- P of a quantifier.
    quantify_p-without : (ρ : Reading) (q : Quantifier) → WithoutB t (quantify_p ρ q s Pa Na)
    unfolding quantify_p
    quantify_p-without ρ exists =
        behind-without ρ (quantify-without forall s f h (λ k. connect-without disj (pa k) (na k))) (quantify-without exists s f h pa)
    quantify_p-without ρ forall = quantify-without forall s f h pa

    -- N of a quantifier.
    quantify_n-without : (ρ : Reading) (q : Quantifier) → WithoutB t (quantify_n ρ q s Pa Na)
    unfolding quantify_n
    quantify_n-without ρ exists = quantify-without forall s f h na
    quantify_n-without ρ forall =
        behind-without ρ (quantify-without forall s f h (λ k. connect-without disj (pa k) (na k))) (quantify-without exists s f h na)

  -- The guard of a lookup.
  guard_of-without : (ρ : Reading) (Γ : Declarations) (A : ℕ) {d : BExp ⊥} {v : IExp ⊥} → WithoutB t d → WithoutI t v → WithoutB t (guard_of ρ Γ A d v)
  unfolding guard_of inside free_b
  guard_of-without ρ Γ A d v = record { not_free = rw (d.not_free, v.not_free) }

  -- The index of a lookup.
  index_of-without : (ρ : Reading) (Γ : Declarations) (A : ℕ) {v : IExp ⊥} → WithoutI t v → WithoutI t (index_of ρ Γ A v)
  unfolding index_of clamped free_b
  index_of-without ρ Γ A v = record { not_free = v.not_free }

-- ---- the companions

module _ (ρ : Reading) (Γ : Declarations) (t : ℕ) where
  mutual
    unfolding free_i Vᵗ divide_v divide_d

    -- V and D of an integer tree.
    pub companions_without_I : (e : IExp ⊥) → free_i t e ≡ false → WithoutI t (Vᵗ ρ Γ e) × WithoutB t (Dᵗ ρ Γ e)
    companions_without_I (constant z) h = (record { not_free = refl }, record { not_free = refl })
    companions_without_I (variable v) h = (record { not_free = refl }, record { not_free = refl })
    companions_without_I (slot s) h = (record { not_free = h }, record { not_free = refl })
    companions_without_I (arith op a b) h =
        let parts = ||-false (free_i t a) (free_i t b) h in
        let x = companions_without_I a parts.0 in
        let y = companions_without_I b parts.1 in
        (record { not_free = rw (x.0.not_free, y.0.not_free) }, connect-without conj x.1 y.1)
    companions_without_I (divide op a b) h =
        let parts = ||-false (free_i t a) (free_i t b) h in
        let x = companions_without_I a parts.0 in
        let y = companions_without_I b parts.1 in
        (record { not_free = rw (x.0.not_free, y.0.not_free) }, record { not_free = rw (x.1.not_free, y.1.not_free, y.0.not_free) })
    companions_without_I (negate a) h = let x = companions_without_I a h in (record { not_free = x.0.not_free }, x.1)
    companions_without_I (bool_to_int a) h = let x = companions_without_B a h in (record { not_free = x.0.not_free }, connect-without disj x.0 x.1)
    companions_without_I (lookup A i) h =
        let x = companions_without_I i h in
        (record { not_free = (index_of-without ρ Γ A x.0).not_free }, guard_of-without ρ Γ A x.1 x.0)
    companions_without_I (sum s a) h = (
      record { not_free = bound-false (not (eqb t s)) (free_i t a) _ h (λ k. (companions_without_I a k).0.not_free) },
      record { not_free = bound-false (not (eqb t s)) (free_i t a) _ h (λ k. (companions_without_I a k).1.not_free) },
    )
    companions_without_I (iref r) h = absurd r

    -- P and N of a Boolean tree.
    pub companions_without_B : (e : BExp ⊥) → free_b t e ≡ false → WithoutB t (Pᵗ ρ Γ e) × WithoutB t (Nᵗ ρ Γ e)
    companions_without_B (truth b) h = (record { not_free = refl }, record { not_free = refl })
    companions_without_B (variable_b v) h = (record { not_free = refl }, record { not_free = refl })
    companions_without_B (lookup_b A i) h =
        let x = companions_without_I i h in
        let g : WithoutB t (guard_of ρ Γ A (Dᵗ ρ Γ i) (Vᵗ ρ Γ i)) = guard_of-without ρ Γ A x.1 x.0 in
        let l : WithoutB t (lookup_b A (index_of ρ Γ A (Vᵗ ρ Γ i))) = record { not_free = (index_of-without ρ Γ A x.0).not_free } in
        (connect-without conj g l, refuted-without ρ g l (connect-without conj g l))
    companions_without_B (connect c a b) h =
        let parts = ||-false (free_b t a) (free_b t b) h in
        let x = companions_without_B a parts.0 in
        let y = companions_without_B b parts.1 in
        (connect_p-without x.0 x.1 y.0 y.1 ρ c, connect_n-without x.0 x.1 y.0 y.1 ρ c)
    companions_without_B (negation a) h = let x = companions_without_B a h in (x.1, x.0)
    companions_without_B (compare c a b) h =
        let parts = ||-false (free_i t a) (free_i t b) h in
        let x = companions_without_I a parts.0 in
        let y = companions_without_I b parts.1 in
        let g = connect-without conj x.1 y.1 in
        let l = compare-without c x.0 y.0 in
        (connect-without conj g l, refuted-without ρ g l (connect-without conj g l))
    companions_without_B (quantify q s a) h = (
      quantify_p-without s (free_b t a) h (λ k. (companions_without_B a k).0) (λ k. (companions_without_B a k).1) ρ q,
      quantify_n-without s (free_b t a) h (λ k. (companions_without_B a k).0) (λ k. (companions_without_B a k).1) ρ q,
    )
    companions_without_B (bref r) h = absurd r
