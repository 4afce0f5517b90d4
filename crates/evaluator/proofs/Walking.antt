-- What a walk over an expression gives, from what it gave over its operands; and over a node, from its decoded case.
use mathlib.Core.Path.{◌≡◌, refl, sym}
use Prim.Native.Nat.{ℕ}
use mathlib.Core.Bool.{Bool, true, false, ◌&&◌}
use mathlib.Core.Option.{Option, none, some, map, bind}
use lib.IntN.{ℤ, neg_ℤ}
use Rattle.numbers.specs.Whole.{within_limit}
use Rattle.language.specs.Syntax as syntax
use Rattle.language.specs.Syntax.{IExp, BExp, Declarations}
use Rattle.language.specs.Readings as readings
use Rattle.language.specs.Readings.{both, arithmetic, division, comparison, connective, atomic, opposite}
use Rattle.language.specs.Meaning.{Assignment, Setting, array_at, is_one, number, element_at, value_i, value_b, value_within, met_within_i, met_within_b}
use Rattle.operations.specs.declared.values.Walked.{Walked}
use Rattle.operations.specs.Values.{of_integer, of_truth, integer_of, truth_of, of_walk, limited_to, truth_to}
use Rattle.operations.specs.Integers.{integers, negated, numbered}
use Rattle.operations.specs.Truths.{compared, connected, opposed}
use Rattle.evaluator.specs.Walks.{integer_walked, truth_walked, looked_up, looked_up_truth}
use Rattle.operations.proofs.Walks.{integer_of-of_integer}

truth_of-of_truth : (v : Option Bool) → truth_of (of_truth v) ≡ v
truth_of-of_truth none = refl
truth_of-of_truth (some b) = refl

-- ---- operations on what two walks gave

both-walked : (f : ℤ → ℤ → Option ℤ) (c d : Bool) (u v : Option ℤ) →
    limited_to ((of_walk c (of_integer u)).within && (of_walk d (of_integer v)).within) (both f (integer_of (of_walk c (of_integer u)).value) (integer_of (of_walk d (of_integer v)).value))
    ≡ of_walk (c && d && value_within (both f u v)) (of_integer (both f u v))
unfolding limited_to
both-walked f true true u v = rw (integer_of-of_integer u, integer_of-of_integer v)
both-walked f true false u v = refl
both-walked f false d u v = refl

one-walked : (f : ℤ → Option ℤ) (c : Bool) (u : Option ℤ) →
    limited_to (of_walk c (of_integer u)).within (bind (integer_of (of_walk c (of_integer u)).value) f) ≡ of_walk (c && value_within (bind u f)) (of_integer (bind u f))
unfolding limited_to
one-walked f true u = rw (integer_of-of_integer u)
one-walked f false u = refl

negated-walked : (c : Bool) (u : Option ℤ) → negated (of_walk c (of_integer u)) ≡ of_walk (c && value_within (map neg_ℤ u)) (of_integer (map neg_ℤ u))
unfolding negated limited_to
negated-walked true u = rw (integer_of-of_integer u)
negated-walked false u = refl

within-number : (v : Option Bool) → value_within (map number v) ≡ true
unfolding value_within number within_limit
within-number none = refl
within-number (some true) = refl
within-number (some false) = refl

numbered-walked : (c : Bool) (v : Option Bool) → numbered (of_walk c (of_truth v)) ≡ of_walk c (of_integer (map number v))
unfolding numbered limited_to
numbered-walked true v = rw (truth_of-of_truth v, within-number v)
numbered-walked false v = refl

pub both-truths : (f : Option Bool → Option Bool → Option Bool) (c d : Bool) (u v : Option Bool) →
    truth_to ((of_walk c (of_truth u)).within && (of_walk d (of_truth v)).within) (f (truth_of (of_walk c (of_truth u)).value) (truth_of (of_walk d (of_truth v)).value))
    ≡ of_walk (c && d) (of_truth (f u v))
unfolding truth_to
both-truths f true true u v = rw (truth_of-of_truth u, truth_of-of_truth v)
both-truths f true false u v = refl
both-truths f false d u v = refl

one_truth : (f : Option Bool → Option Bool) (c : Bool) (u : Option Bool) → truth_to (of_walk c (of_truth u)).within (f (truth_of (of_walk c (of_truth u)).value)) ≡ of_walk c (of_truth (f u))
unfolding truth_to
one_truth f true u = rw (truth_of-of_truth u)
one_truth f false u = refl

both-compared : (f : Option ℤ → Option ℤ → Option Bool) (c d : Bool) (u v : Option ℤ) →
    truth_to ((of_walk c (of_integer u)).within && (of_walk d (of_integer v)).within) (f (integer_of (of_walk c (of_integer u)).value) (integer_of (of_walk d (of_integer v)).value))
    ≡ of_walk (c && d) (of_truth (f u v))
unfolding truth_to
both-compared f true true u v = rw (integer_of-of_integer u, integer_of-of_integer v)
both-compared f true false u v = refl
both-compared f false d u v = refl

one-looked-up : (f : Option ℤ → Option Bool) (c : Bool) (u : Option ℤ) →
    truth_to (of_walk c (of_integer u)).within (f (integer_of (of_walk c (of_integer u)).value)) ≡ of_walk c (of_truth (f u))
unfolding truth_to
one-looked-up f true u = rw (integer_of-of_integer u)
one-looked-up f false u = refl

-- ---- expressions

module _ (ρ : readings.Reading) (Γ : Declarations) (α : Assignment) (σ : Setting) where
  abbrev I : IExp ⊥ → Walked
  I e = integer_walked ρ Γ α e σ

  abbrev B : BExp ⊥ → Walked
  B e = truth_walked ρ Γ α e σ

  pub walked_arith : (op : syntax.Arithmetic) (a b : IExp ⊥) → I (syntax.arith op a b) ≡ integers (λ x y. some (arithmetic op x y)) (I a) (I b)
  unfolding integer_walked value_i met_within_i integers
  walked_arith op a b =
      sym (both-walked (λ x y. some (arithmetic op x y)) (met_within_i ρ Γ α a σ) (met_within_i ρ Γ α b σ) (value_i ρ Γ α a σ) (value_i ρ Γ α b σ))

  pub walked_divide : (op : syntax.Division) (a b : IExp ⊥) → I (syntax.divide op a b) ≡ integers (division op) (I a) (I b)
  unfolding integer_walked value_i met_within_i integers
  walked_divide op a b = sym (both-walked (division op) (met_within_i ρ Γ α a σ) (met_within_i ρ Γ α b σ) (value_i ρ Γ α a σ) (value_i ρ Γ α b σ))

  pub walked_negate : (a : IExp ⊥) → I (syntax.negate a) ≡ negated (I a)
  unfolding integer_walked value_i met_within_i
  walked_negate a = sym (negated-walked (met_within_i ρ Γ α a σ) (value_i ρ Γ α a σ))

  pub walked_number : (a : BExp ⊥) → I (syntax.bool_to_int a) ≡ numbered (B a)
  unfolding integer_walked truth_walked value_i met_within_i
  walked_number a = sym (numbered-walked (met_within_b ρ Γ α a σ) (value_b ρ Γ α a σ))

  pub walked_lookup : (A : ℕ) (i : IExp ⊥) → I (syntax.lookup A i) ≡ looked_up readings.strict Γ α A (I i)
  unfolding integer_walked value_i met_within_i looked_up
  walked_lookup A i = sym (one-walked (element_at α (array_at Γ A)) (met_within_i ρ Γ α i σ) (value_i ρ Γ α i σ))

  pub walked_connect : (c : syntax.Connective) (a b : BExp ⊥) → B (syntax.connect c a b) ≡ connected ρ c (B a) (B b)
  unfolding truth_walked value_b met_within_b connected
  walked_connect c a b = sym (both-truths (connective ρ c) (met_within_b ρ Γ α a σ) (met_within_b ρ Γ α b σ) (value_b ρ Γ α a σ) (value_b ρ Γ α b σ))

  pub walked_not : (a : BExp ⊥) → B (syntax.negation a) ≡ opposed (B a)
  unfolding truth_walked value_b met_within_b opposed
  walked_not a = sym (one_truth opposite (met_within_b ρ Γ α a σ) (value_b ρ Γ α a σ))

  pub walked_compare : (c : syntax.Comparison) (a b : IExp ⊥) → B (syntax.compare c a b) ≡ compared ρ c (I a) (I b)
  unfolding integer_walked truth_walked value_b met_within_b compared
  walked_compare c a b =
      sym (both-compared (λ u v. atomic ρ (both (λ x y. some (comparison c x y)) u v)) (met_within_i ρ Γ α a σ) (met_within_i ρ Γ α b σ) (value_i ρ Γ α a σ) (value_i ρ Γ α b σ))

  pub walked_lookup_b : (A : ℕ) (i : IExp ⊥) → B (syntax.lookup_b A i) ≡ looked_up_truth ρ Γ α A (I i)
  unfolding integer_walked truth_walked value_b met_within_b looked_up_truth
  walked_lookup_b A i =
      sym (one-looked-up (λ u. atomic ρ (map is_one (bind u (element_at α (array_at Γ A))))) (met_within_i ρ Γ α i σ) (value_i ρ Γ α i σ))
