-- What a formula over node numbers stands for: the tree that has, in place of each reference, the tree of the node referred to. Each
-- right-hand side of document 01's rules, over formulas, stands for the same right-hand side over their trees.
use Prim.Native.Nat.{ℕ}
use mathlib.Core.Bool.{Bool}
use mathlib.Core.List.{List}
use lib.IntN.{ℤ}
use Rattle.language.specs.Syntax.{Arithmetic, Division, Connective, conj, disj, implies, iff, Comparison, Quantifier, exists, forall, boolean, integer, IExp, constant, variable, slot, arith, divide, negate, bool_to_int, lookup, sum, iref, BExp, truth, variable_b, lookup_b, connect, negation, compare, quantify, bref, Declarations}
use Rattle.language.specs.Readings.{Reading, strict, kleene, relational}
use Rattle.language.specs.Tables.{Row, whole, bool}
use Rattle.rules.specs.Formulas.{divide_v, divide_d, inside, clamped, refuted, behind, settled, connect_p, connect_n, quantify_p, quantify_n}
use Rattle.rules.specs.Soundness.{IsVariable, IsArray, IsSlot}
use Rattle.rules.proofs.Nodes.{HasTree}

-- The formula stands for the tree: what it names is declared, and in place of each reference stands that node's tree.
mutual
  pub data StandsI (Γ : Declarations) (rows : List Row) : IExp ℕ → IExp ⊥ → Type 0 where
    constant-stands : {z : ℤ} → StandsI Γ rows (constant z) (constant z)
    variable-stands : {v : ℕ} → IsVariable Γ integer v → StandsI Γ rows (variable v) (variable v)
    slot-stands : {s : ℕ} → IsSlot Γ s → StandsI Γ rows (slot s) (slot s)
    arith-stands : {op : Arithmetic} {f g : IExp ℕ} {a b : IExp ⊥} → StandsI Γ rows f a → StandsI Γ rows g b
        → StandsI Γ rows (arith op f g) (arith op a b)
    divide-stands : {op : Division} {f g : IExp ℕ} {a b : IExp ⊥} → StandsI Γ rows f a → StandsI Γ rows g b
        → StandsI Γ rows (divide op f g) (divide op a b)
    negate-stands : {f : IExp ℕ} {a : IExp ⊥} → StandsI Γ rows f a → StandsI Γ rows (negate f) (negate a)
    bool_to_int-stands : {f : BExp ℕ} {a : BExp ⊥} → StandsB Γ rows f a → StandsI Γ rows (bool_to_int f) (bool_to_int a)
    lookup-stands : {A : ℕ} {f : IExp ℕ} {i : IExp ⊥} → IsArray Γ integer A → StandsI Γ rows f i → StandsI Γ rows (lookup A f) (lookup A i)
    sum-stands : {s : ℕ} {f : IExp ℕ} {a : IExp ⊥} → IsSlot Γ s → StandsI Γ rows f a → StandsI Γ rows (sum s f) (sum s a)
    iref-stands : {k : ℕ} {a : IExp ⊥} → HasTree rows k (whole a) → StandsI Γ rows (iref k) a

  pub data StandsB (Γ : Declarations) (rows : List Row) : BExp ℕ → BExp ⊥ → Type 0 where
    truth-stands : {b : Bool} → StandsB Γ rows (truth b) (truth b)
    variable_b-stands : {v : ℕ} → IsVariable Γ boolean v → StandsB Γ rows (variable_b v) (variable_b v)
    lookup_b-stands : {A : ℕ} {f : IExp ℕ} {i : IExp ⊥} → IsArray Γ boolean A → StandsI Γ rows f i → StandsB Γ rows (lookup_b A f) (lookup_b A i)
    connect-stands : {c : Connective} {f g : BExp ℕ} {a b : BExp ⊥} → StandsB Γ rows f a → StandsB Γ rows g b
        → StandsB Γ rows (connect c f g) (connect c a b)
    negation-stands : {f : BExp ℕ} {a : BExp ⊥} → StandsB Γ rows f a → StandsB Γ rows (negation f) (negation a)
    compare-stands : {c : Comparison} {f g : IExp ℕ} {a b : IExp ⊥} → StandsI Γ rows f a → StandsI Γ rows g b
        → StandsB Γ rows (compare c f g) (compare c a b)
    quantify-stands : {q : Quantifier} {s : ℕ} {f : BExp ℕ} {a : BExp ⊥} → IsSlot Γ s → StandsB Γ rows f a
        → StandsB Γ rows (quantify q s f) (quantify q s a)
    bref-stands : {k : ℕ} {a : BExp ⊥} → HasTree rows k (bool a) → StandsB Γ rows (bref k) a

-- ---- the right-hand sides of document 01's rules

module _ {Γ : Declarations} {rows : List Row} where
  -- V of a division.
  pub divide_v-stands : (op : Division) {Va Vb : IExp ℕ} {a b : IExp ⊥} → StandsI Γ rows Va a → StandsI Γ rows Vb b
      → StandsI Γ rows (divide_v op Va Vb) (divide_v op a b)
  unfolding divide_v
  divide_v-stands op a b = divide-stands a (arith-stands b (bool_to_int-stands (compare-stands b constant-stands)))

  -- D of a division.
  pub divide_d-stands : {Da Db : BExp ℕ} {Vb : IExp ℕ} {a b : BExp ⊥} {c : IExp ⊥} → StandsB Γ rows Da a → StandsB Γ rows Db b
      → StandsI Γ rows Vb c → StandsB Γ rows (divide_d Da Db Vb) (divide_d a b c)
  unfolding divide_d
  divide_d-stands a b c = connect-stands (connect-stands a b) (compare-stands c constant-stands)

  -- The guard of a lookup.
  pub inside-stands : (l u : ℤ) {Di : BExp ℕ} {Vi : IExp ℕ} {d : BExp ⊥} {i : IExp ⊥} → StandsB Γ rows Di d → StandsI Γ rows Vi i
      → StandsB Γ rows (inside l u Di Vi) (inside l u d i)
  unfolding inside
  inside-stands l u d i = connect-stands (connect-stands d (compare-stands constant-stands i)) (compare-stands i constant-stands)

  -- The index of a lookup.
  pub clamped-stands : (l u : ℤ) {Vi : IExp ℕ} {i : IExp ⊥} → StandsI Γ rows Vi i → StandsI Γ rows (clamped l u Vi) (clamped l u i)
  unfolding clamped
  clamped-stands l u i = arith-stands constant-stands (arith-stands constant-stands i)

  -- N of a comparison or Boolean lookup.
  pub refuted-stands : (ρ : Reading) {g e P : BExp ℕ} {a b c : BExp ⊥} → StandsB Γ rows g a → StandsB Γ rows e b → StandsB Γ rows P c
      → StandsB Γ rows (refuted ρ g e P) (refuted ρ a b c)
  unfolding refuted
  refuted-stands strict a b c = connect-stands a (negation-stands b)
  refuted-stands kleene a b c = connect-stands a (negation-stands b)
  refuted-stands relational a b c = negation-stands c

  -- What strict puts in front.
  behind-stands : (ρ : Reading) {B e : BExp ℕ} {a b : BExp ⊥} → StandsB Γ rows B a → StandsB Γ rows e b → StandsB Γ rows (behind ρ B e) (behind ρ a b)
  unfolding behind
  behind-stands strict a b = connect-stands a b
  behind-stands kleene a b = b
  behind-stands relational a b = b

  module _ {Pa Na Pb Nb : BExp ℕ} {a b c d : BExp ⊥}
      (pa : StandsB Γ rows Pa a) (na : StandsB Γ rows Na b) (pb : StandsB Γ rows Pb c) (nb : StandsB Γ rows Nb d) where
    -- B of strict.
    settled-stands : StandsB Γ rows (settled Pa Na Pb Nb) (settled a b c d)
    unfolding settled
    settled-stands = connect-stands (connect-stands pa na) (connect-stands pb nb)

    -- P of a connective.
    pub connect_p-stands : (ρ : Reading) (k : Connective) → StandsB Γ rows (connect_p ρ k Pa Na Pb Nb) (connect_p ρ k a b c d)
    unfolding connect_p
    connect_p-stands ρ conj = connect-stands pa pb
    connect_p-stands ρ disj = behind-stands ρ settled-stands (connect-stands pa pb)
    connect_p-stands ρ implies = behind-stands ρ settled-stands (connect-stands na pb)
    connect_p-stands ρ iff = connect-stands (connect-stands pa pb) (connect-stands na nb)

    -- N of a connective.
    pub connect_n-stands : (ρ : Reading) (k : Connective) → StandsB Γ rows (connect_n ρ k Pa Na Pb Nb) (connect_n ρ k a b c d)
    unfolding connect_n
    connect_n-stands ρ conj = behind-stands ρ settled-stands (connect-stands na nb)
    connect_n-stands ρ disj = connect-stands na nb
    connect_n-stands ρ implies = connect-stands pa nb
    connect_n-stands ρ iff = connect-stands (connect-stands pa nb) (connect-stands na pb)

  module _ {s : ℕ} {Pa Na : BExp ℕ} {a b : BExp ⊥} (d : IsSlot Γ s) (pa : StandsB Γ rows Pa a) (na : StandsB Γ rows Na b) where
    -- P of a quantifier.
    pub quantify_p-stands : (ρ : Reading) (q : Quantifier) → StandsB Γ rows (quantify_p ρ q s Pa Na) (quantify_p ρ q s a b)
    unfolding quantify_p
    quantify_p-stands ρ exists = behind-stands ρ (quantify-stands d (connect-stands pa na)) (quantify-stands d pa)
    quantify_p-stands ρ forall = quantify-stands d pa

    -- N of a quantifier.
    pub quantify_n-stands : (ρ : Reading) (q : Quantifier) → StandsB Γ rows (quantify_n ρ q s Pa Na) (quantify_n ρ q s a b)
    unfolding quantify_n
    quantify_n-stands ρ exists = quantify-stands d na
    quantify_n-stands ρ forall = behind-stands ρ (quantify-stands d (connect-stands pa na)) (quantify-stands d na)
