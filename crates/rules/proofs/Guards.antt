-- The rules with a guard: comparisons and lookups. P is guard and test, N is guard and no test; "relational N = ¬P".
use mathlib.Core.Path.{◌≡◌, refl, sym, ap, ◌∙◌}
use Prim.Native.Nat.{ℕ, ◌<◌}
use mathlib.Core.Bool.{Bool, not, ◌&&◌}
use mathlib.Core.Option.{Option, none, some, map, bind}
use lib.Dec.{T}
use lib.IntN.{ℤ}
use lib.ListN.{length}
use Rattle.language.specs.Syntax.{minimum, maximum, conj, Comparison, at_most, IExp, BExp, lookup, lookup_b, connect, compare, Declarations}
use Rattle.language.specs.Readings.{Reading, strict, kleene, relational, both, arithmetic, comparison, logic, atomic}
use Rattle.language.specs.Meaning.{Assignment, Setting, array_at, is_one, element_at, value_i, value_b}
use Rattle.rules.specs.Bounds.{elements_interval, interval}
use Rattle.rules.specs.Formulas.{inside, clamped, refuted}
use Rattle.rules.specs.Rules.{last}
use Rattle.rules.specs.Soundness.{Within, Fits, Declared}
use Rattle.rules.specs.TotalRows.{defined, is_true, is_false}
use Rattle.rules.proofs.Claims.{MeansI, MeansB}
use Rattle.rules.proofs.Companions.{guard_of, index_of, Vᵗ, Pᵗ, Dᵗ, Nᵗ}
use Rattle.rules.proofs.Operands.{Agrees, defined-map, agrees-map, defined-both, agrees-both}
use Rattle.rules.proofs.Formulas.{HasI, HasB, has-≡, constant-has, arith-has, lookup-has, compare-has, lookup_b-has, connect-has, negation-has, not-is_true, V-has, D-has}
use Rattle.rules.proofs.Lookups.{clamped_to, first-≤-clamped, clamped-≤-last, defined-element, agrees-element, lookup-within, array-fits}

-- ---- guard and test

-- The guard says that v is defined and the test is v's value there.
guarded_true : (ρ : Reading) {b : Bool} (v : Option Bool) → Agrees b v → defined v && b ≡ is_true (atomic ρ v)
unfolding defined is_true atomic
guarded_true strict none h = refl
guarded_true kleene none h = refl
guarded_true relational none h = refl
guarded_true strict (some a) h = h a refl
guarded_true kleene (some a) h = h a refl
guarded_true relational (some a) h = h a refl

-- Its value is false where the test fails.
guarded_false : {b : Bool} (v : Option Bool) → Agrees b v → defined v && not b ≡ is_false v
unfolding defined is_true is_false
guarded_false none h = refl
guarded_false (some a) h = ap not (h a refl) ∙ not-is_true (some a) tt

-- "a comparison or Boolean lookup with an undefined operand .. is false"
atomic-defined : (v : Option Bool) → T (defined (atomic relational v))
unfolding atomic defined
atomic-defined none = tt
atomic-defined (some b) = tt

module _ {ρ' : Reading} {Γ : Declarations} {α : Assignment} {σ : Setting} where
  -- N of a guarded test.
  refuted-has : (ρ : Reading) {g e : BExp ⊥} {b : Bool} (v : Option Bool) → HasB ρ' Γ α σ g (defined v) → HasB ρ' Γ α σ e b → Agrees b v →
      HasB ρ' Γ α σ (refuted ρ g e (connect conj g e)) (is_false (atomic ρ v))
  unfolding refuted atomic logic
  refuted-has strict v p q h = has-≡ (connect-has conj p (negation-has q)) (guarded_false v h)
  refuted-has kleene v p q h = has-≡ (connect-has conj p (negation-has q)) (guarded_false v h)
  refuted-has relational v p q h =
      has-≡ (negation-has (connect-has conj p q)) (ap not (guarded_true relational v h) ∙ not-is_true (atomic relational v) (atomic-defined v))

module _ {ρ ρ' : Reading} {Γ : Declarations} {α : Assignment} {σ : Setting} where
  -- P and N of a node whose rule is guard and test.
  guarded_means : {n : BExp ⊥} {g e : BExp ⊥} {b : Bool} (v : Option Bool) →
      value_b ρ Γ α n σ ≡ atomic ρ v → Pᵗ ρ Γ n ≡ connect conj g e → Nᵗ ρ Γ n ≡ refuted ρ g e (connect conj g e) →
      HasB ρ' Γ α σ g (defined v) → HasB ρ' Γ α σ e b → Agrees b v → MeansB ρ ρ' Γ α σ n
  unfolding logic
  guarded_means v n-is P_is N_is g e h = record {
    P_is = rw (P_is, n-is) (has-≡ (connect-has conj g e) (guarded_true ρ v h)).is;
    N_is = rw (N_is, n-is) (refuted-has ρ v g e h).is;
    relational_defined = λ r. rw (n-is, r) (atomic-defined v);
  }

  -- "Comparison: P = (Da ∧ Db) ∧ (Va op Vb), N = (Da ∧ Db) ∧ ¬(Va op Vb); relational N = ¬P."
  pub compare-means : (c : Comparison) {a b : IExp ⊥} → MeansI ρ ρ' Γ α σ a → MeansI ρ ρ' Γ α σ b → MeansB ρ ρ' Γ α σ (compare c a b)
  unfolding value_b Pᵗ Nᵗ logic
  compare-means c {a} {b} m n =
      let x = value_i ρ Γ α a σ in
      let y = value_i ρ Γ α b σ in
      let g = has-≡ (connect-has conj (D-has m) (D-has n)) (defined-both (comparison c) x y) in
      let h = agrees-both (comparison c) x y m.V_agrees n.V_agrees in
      guarded_means (both (λ x y. some (comparison c x y)) x y) refl refl refl g (compare-has c (V-has m) (V-has n)) h

-- ---- lookups

module _ {ρ ρ' : Reading} {Γ : Declarations} {α : Assignment} {σ : Setting} (A : ℕ) {i : IExp ⊥} (m : MeansI ρ ρ' Γ α σ i) where
  -- "g = (Di ∧ (l ≤ Vi)) ∧ (Vi ≤ u)" says where the element is defined.
  guard-has : HasB ρ' Γ α σ (guard_of ρ Γ A (Dᵗ ρ Γ i) (Vᵗ ρ Γ i)) (defined (bind (value_i ρ Γ α i σ) (element_at α (array_at Γ A))))
  unfolding guard_of inside logic comparison
  guard-has =
      let low = compare-has at_most (constant-has (array_at Γ A).first) (V-has m) in
      let high = compare-has at_most (V-has m) (constant-has (last (array_at Γ A))) in
      has-≡ (connect-has conj (connect-has conj (D-has m) low) high) (defined-element α (array_at Γ A) (value_i ρ Γ α i σ) m.V_agrees)

  -- "h = A[max(l, min(u, Vi))]": h's index is the clamped one.
  index-has : HasI ρ' Γ α σ (index_of ρ Γ A (Vᵗ ρ Γ i)) (clamped_to (array_at Γ A) m.value)
  unfolding index_of clamped arithmetic
  index-has = arith-has maximum (constant-has (array_at Γ A).first) (arith-has minimum (constant-has (last (array_at Γ A))) (V-has m))

  module _ (declared : Declared Γ) (known : A < length Γ.arrays) (fits : Fits Γ α σ) where
    -- It finds a number of the array's interval.
    clamped-found : (z : ℤ) × (element_at α (array_at Γ A) (clamped_to (array_at Γ A) m.value) ≡ some z) × Within (elements_interval Γ (array_at Γ A).elements) z
    clamped-found =
        let f = array-fits declared A known in
        lookup-within Γ α fits (array_at Γ A) f (first-≤-clamped (array_at Γ A) m.value) (clamped-≤-last (array_at Γ A) m.value f.some_element)

    -- h has a value.
    pub test_has : (b : Bool) × HasB ρ' Γ α σ (lookup_b A (index_of ρ Γ A (Vᵗ ρ Γ i))) b
    test_has = (is_one clamped-found.0, lookup_b-has A index-has clamped-found.1)

    -- "Integer: V = h, D = g."
    pub lookup-means : MeansI ρ ρ' Γ α σ (lookup A i)
    unfolding value_i Vᵗ Dᵗ interval
    lookup-means = record {
      value = clamped-found.0;
      V_is = (lookup-has A index-has clamped-found.1).is;
      V_within = clamped-found.2;
      D_is = guard-has.is;
      V_agrees = agrees-element α (array_at Γ A) (value_i ρ Γ α i σ) m.V_agrees clamped-found.1;
    }

    -- "Boolean: P = g ∧ h, N = g ∧ ¬h; relational N = ¬P."
    pub lookup_b-means : MeansB ρ ρ' Γ α σ (lookup_b A i)
    unfolding value_b Pᵗ Nᵗ test_has
    lookup_b-means =
        let x = bind (value_i ρ Γ α i σ) (element_at α (array_at Γ A)) in
        let g = has-≡ guard-has (sym (defined-map is_one x)) in
        let h = agrees-map is_one x (agrees-element α (array_at Γ A) (value_i ρ Γ α i σ) m.V_agrees clamped-found.1) in
        guarded_means (map is_one x) refl refl refl g test_has.1 h
