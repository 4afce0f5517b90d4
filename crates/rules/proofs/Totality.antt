-- The companions of a sound tree are total, with every expression below: each has a value under every reading and at every setting that
-- fits, an integer within the limit.
use Prim.Native.Nat.{ℕ, ◌<◌}
use mathlib.Core.Bool.{true}
use lib.Dec.{T}
use lib.IntN.{ℤ}
use lib.ListN.{length}
use Rattle.numbers.specs.Whole.{within_limit}
use Rattle.numbers.proofs.Order.{least-of, greatest-of}
use Rattle.language.specs.Syntax.{minimum, maximum, Connective, conj, disj, implies, iff, unequal, at_most, Quantifier, exists, forall, IExp, constant, variable, slot, arith, divide, negate, bool_to_int, BExp, lookup, sum, iref, truth, variable_b, lookup_b, connect, negation, compare, quantify, bref, Declarations}
use Rattle.language.specs.Readings.{Reading, strict, kleene, relational, arithmetic}
use Rattle.language.specs.Meaning.{Assignment, array_at}
use Rattle.rules.specs.Formulas.{divide_v, divide_d, inside, clamped, refuted, behind, settled, connect_p, connect_n, quantify_p, quantify_n}
use Rattle.rules.specs.Rules.{last}
use Rattle.rules.specs.Soundness.{Declared}
use Rattle.rules.proofs.Claims.{InBounds, SoundI, SoundB, TotalI, TotalB, AllTotalI, AllTotalB}
use Rattle.rules.proofs.Companions.{guard_of, index_of, Vᵗ, Pᵗ, Dᵗ, Nᵗ}
use Rattle.rules.proofs.Intervals.{within-limit}
use Rattle.rules.proofs.Lookups.{array-fits, first-limit, last-limit}
use Rattle.rules.proofs.Guards.{test_has}
use Rattle.rules.proofs.Meaning.{means_I}
use Rattle.rules.proofs.Total.{EachI, EachB, truth-each, variable_b-each, connect-each, negation-each, compare-each, quantify-each, constant-each, zero-each, bool_to_int-each, arith-each, corrected-each}

-- ---- the formulas of the rules

module _ {Γ : Declarations} {α : Assignment} where
  -- (Di ∧ (l ≤ Vi)) ∧ (Vi ≤ u): the guard.
  inside-each : {l u : ℤ} → EachI Γ α (constant l) → EachI Γ α (constant u) → {d : BExp ⊥} {v : IExp ⊥} → EachB Γ α d → EachI Γ α v → EachB Γ α (inside l u d v)
  unfolding inside
  inside-each l u d v = connect-each conj (connect-each conj d (compare-each at_most l v)) (compare-each at_most v u)

  -- max(l, min(u, Vi)): h's index.
  clamped-each : {l u : ℤ} → EachI Γ α (constant l) → EachI Γ α (constant u) → {v : IExp ⊥} → EachI Γ α v → EachI Γ α (clamped l u v)
  unfolding clamped arithmetic
  clamped-each l u v =
      arith-each maximum (λ x y p q. greatest-of x y (λ z. T (within_limit z)) p q) l (arith-each minimum (λ x y p q. least-of x y (λ z. T (within_limit z)) p q) u v)

  -- N of a guarded test.
  refuted-each : (ρ : Reading) {g e p : BExp ⊥} → EachB Γ α g → EachB Γ α e → EachB Γ α p → EachB Γ α (refuted ρ g e p)
  unfolding refuted
  refuted-each strict g e p = connect-each conj g (negation-each e)
  refuted-each kleene g e p = connect-each conj g (negation-each e)
  refuted-each relational g e p = negation-each p

  -- What strict alone puts in front.
  behind-each : (ρ : Reading) {b e : BExp ⊥} → EachB Γ α b → EachB Γ α e → EachB Γ α (behind ρ b e)
  unfolding behind
  behind-each strict b e = connect-each conj b e
  behind-each kleene b e = e
  behind-each relational b e = e

  module _ (ρ : Reading) {Pa Na Pb Nb : BExp ⊥} (p : EachB Γ α Pa) (n : EachB Γ α Na) (p' : EachB Γ α Pb) (n' : EachB Γ α Nb) where
    -- B = (Pa ∨ Na) ∧ (Pb ∨ Nb).
    settled-each : EachB Γ α (settled Pa Na Pb Nb)
    unfolding settled
    settled-each = connect-each conj (connect-each disj p n) (connect-each disj p' n')

    -- P of a connective.
    connect_p-each : (c : Connective) → EachB Γ α (connect_p ρ c Pa Na Pb Nb)
    unfolding connect_p
    connect_p-each conj = connect-each conj p p'
    connect_p-each disj = behind-each ρ settled-each (connect-each disj p p')
    connect_p-each implies = behind-each ρ settled-each (connect-each disj n p')
    connect_p-each iff = connect-each disj (connect-each conj p p') (connect-each conj n n')

    -- N of a connective.
    connect_n-each : (c : Connective) → EachB Γ α (connect_n ρ c Pa Na Pb Nb)
    unfolding connect_n
    connect_n-each conj = behind-each ρ settled-each (connect-each disj n n')
    connect_n-each disj = connect-each conj n n'
    connect_n-each implies = connect-each conj p n'
    connect_n-each iff = connect-each disj (connect-each conj p n') (connect-each conj n p')

  module _ (ρ : Reading) (s : ℕ) {Pa Na : BExp ⊥} (p : EachB Γ α Pa) (n : EachB Γ α Na) where
    -- P of a quantifier.
    quantify_p-each : (q : Quantifier) → EachB Γ α (quantify_p ρ q s Pa Na)
    unfolding quantify_p
    quantify_p-each exists = behind-each ρ (quantify-each forall s (connect-each disj p n)) (quantify-each exists s p)
    quantify_p-each forall = quantify-each forall s p

    -- N of a quantifier.
    quantify_n-each : (q : Quantifier) → EachB Γ α (quantify_n ρ q s Pa Na)
    unfolding quantify_n
    quantify_n-each exists = quantify-each forall s n
    quantify_n-each forall = behind-each ρ (quantify-each forall s (connect-each disj p n)) (quantify-each exists s n)

-- ---- trees

module _ (ρ : Reading) (Γ : Declarations) (α : Assignment) (declared : Declared Γ) where
  -- V of a node whose interval is within the limit has a value within the limit.
  V-total : (e : IExp ⊥) → SoundI Γ e → InBounds Γ e → TotalI Γ α (Vᵗ ρ Γ e)
  unfolding TotalI
  V-total e s b ρ' σ f = let m = means_I ρ ρ' Γ α declared e s σ f in (m.value, m.V_is, within-limit Γ e b m.V_within)

  module _ (A : ℕ) (known : A < length Γ.arrays) where
    -- The constant l.
    l_each : EachI Γ α (constant (array_at Γ A).first)
    l_each = constant-each (first-limit (array-fits declared A known))

    -- The constant u.
    u-each : EachI Γ α (constant (last (array_at Γ A)))
    u-each = constant-each (last-limit (array-fits declared A known))

    -- The guard.
    guard-each : {d : BExp ⊥} {v : IExp ⊥} → EachB Γ α d → EachI Γ α v → EachB Γ α (guard_of ρ Γ A d v)
    unfolding guard_of
    guard-each d v = inside-each l_each u-each d v

    -- h's index.
    index-each : {v : IExp ⊥} → EachI Γ α v → EachI Γ α (index_of ρ Γ A v)
    unfolding index_of
    index-each v = clamped-each l_each u-each v

    -- The Boolean h.
    test_each : (i : IExp ⊥) → SoundI Γ i → EachI Γ α (Vᵗ ρ Γ i) → EachB Γ α (lookup_b A (index_of ρ Γ A (Vᵗ ρ Γ i)))
    unfolding AllTotalB TotalB
    test_each i s v =
        record { total = ((index-each v).total, λ ρ' σ f. let r = test_has A (means_I ρ ρ' Γ α declared i s σ f) declared known f in (r.0, r.1.is)) }

  mutual
    unfolding SoundI SoundB Vᵗ Dᵗ Pᵗ Nᵗ divide_v divide_d AllTotalI AllTotalB

    -- V and D of a sound integer tree.
    each-I : (e : IExp ⊥) → SoundI Γ e → EachI Γ α (Vᵗ ρ Γ e) × EachB Γ α (Dᵗ ρ Γ e)
    each-I (constant z) s = (record { total = V-total (constant z) s s }, truth-each true)
    each-I (variable v) s = (record { total = V-total (variable v) s s.1 }, truth-each true)
    each-I (slot t) s = (record { total = V-total (slot t) s s.1 }, truth-each true)
    each-I (arith op a b) s =
        let x = each-I a s.0 in let y = each-I b s.1 in
        (record { total = (x.0.total, y.0.total, V-total (arith op a b) s s.2) }, connect-each conj x.1 y.1)
    each-I (divide op a b) s =
        let x = each-I a s.0 in let y = each-I b s.1 in (
          record { total = (x.0.total, (corrected-each y.0).total, V-total (divide op a b) s s.2) },
          connect-each conj (connect-each conj x.1 y.1) (compare-each unequal y.0 zero-each),
        )
    each-I (negate a) s = let x = each-I a s.0 in (record { total = (x.0.total, V-total (negate a) s s.1) }, x.1)
    each-I (bool_to_int a) s = let x = each-B a s in (bool_to_int-each x.0, connect-each disj x.0 x.1)
    each-I (lookup A i) s =
        let x = each-I i s.1 in
        (record { total = ((index-each A s.0.declared x.0).total, V-total (lookup A i) s s.2) }, guard-each A s.0.declared x.1 x.0)
    each-I (sum t a) s = let x = each-I a s.1 in (record { total = (x.0.total, V-total (sum t a) s s.2) }, quantify-each forall t x.1)
    each-I (iref r) s = absurd r

    -- P and N of a sound Boolean tree.
    each-B : (e : BExp ⊥) → SoundB Γ e → EachB Γ α (Pᵗ ρ Γ e) × EachB Γ α (Nᵗ ρ Γ e)
    each-B (truth b) s = (truth-each b, negation-each (truth-each b))
    each-B (variable_b v) s = (variable_b-each v, negation-each (variable_b-each v))
    each-B (lookup_b A i) s =
        let x = each-I i s.1 in
        let g = guard-each A s.0.declared x.1 x.0 in let h = test_each A s.0.declared i s.1 x.0 in
        (connect-each conj g h, refuted-each ρ g h (connect-each conj g h))
    each-B (connect c a b) s =
        let x = each-B a s.0 in let y = each-B b s.1 in
        (connect_p-each ρ x.0 x.1 y.0 y.1 c, connect_n-each ρ x.0 x.1 y.0 y.1 c)
    each-B (negation a) s = let x = each-B a s in (x.1, x.0)
    each-B (compare c a b) s =
        let x = each-I a s.0 in let y = each-I b s.1 in
        let g = connect-each conj x.1 y.1 in let h = compare-each c x.0 y.0 in
        (connect-each conj g h, refuted-each ρ g h (connect-each conj g h))
    each-B (quantify q t a) s = let x = each-B a s.1 in (quantify_p-each ρ t x.0 x.1 q, quantify_n-each ρ t x.0 x.1 q)
    each-B (bref r) s = absurd r

  -- V and D of an integer tree.
  pub total-I : (e : IExp ⊥) → SoundI Γ e → AllTotalI Γ α (Vᵗ ρ Γ e) × AllTotalB Γ α (Dᵗ ρ Γ e)
  total-I e s = let x = each-I e s in (x.0.total, x.1.total)

  -- P and N of a Boolean tree.
  pub total-B : (e : BExp ⊥) → SoundB Γ e → AllTotalB Γ α (Pᵗ ρ Γ e) × AllTotalB Γ α (Nᵗ ρ Γ e)
  total-B e s = let x = each-B e s in (x.0.total, x.1.total)
