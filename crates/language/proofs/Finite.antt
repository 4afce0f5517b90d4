-- Finite types: a test that passes in each case passes always, so that a table of truth values is one computed test.
use mathlib.Core.Path.{◌≡◌, refl, ap}
use mathlib.Core.Bool.{Bool, true, false, not, ◌&&◌, ◌||◌, beq, true≢false, false≢true}
use mathlib.Core.Option.{Option, none, some}
use lib.Dec.{T}
use Rattle.numbers.proofs.Tests.{&&-fst, &&-snd}
use Rattle.language.specs.Syntax.{Connective, conj, disj, implies, iff, Quantifier, exists, forall}
use Rattle.language.specs.Readings.{Reading, strict, kleene, relational}

-- each f says that f passes in every case
pub record Finite (A : Type 0) : Type 0 where
  pub each : (A → Bool) → Bool
  pub at : (f : A → Bool) → T (each f) → (a : A) → T (f a)

-- pairs
infixr 20 ◌⊗◌
abbrev pub ◌⊗◌ : {A B : Type 0} → Finite A → Finite B → Finite (A × B)
F ⊗ G = record {
  each = λ f. F.each (λ a. G.each (λ b. f (a, b)));
  at = λ f t p. G.at (λ b. f (p.0, b)) (F.at (λ a. G.each (λ b. f (a, b))) t p.0) p.1;
}

-- ---- the types that a table goes over

-- A test passed by true and false is passed by each.
pub bool_at : (f : Bool → Bool) → T (f true && f false) → (b : Bool) → T (f b)
bool_at f t true = &&-fst (f true) (f false) t
bool_at f t false = &&-snd (f true) (f false) t

-- true and false
abbrev pub bools : Finite Bool
bools = record { each = λ f. f true && f false; at = bool_at }

-- A test passed by both quantifiers is passed by each.
pub quantifier-at : (f : Quantifier → Bool) → T (f exists && f forall) → (q : Quantifier) → T (f q)
quantifier-at f t exists = &&-fst (f exists) (f forall) t
quantifier-at f t forall = &&-snd (f exists) (f forall) t

-- exists and forall
abbrev pub quantifiers : Finite Quantifier
quantifiers = record { each = λ f. f exists && f forall; at = quantifier-at }

-- A test passed by the three readings is passed by each.
pub reading-at : (f : Reading → Bool) → T (f strict && (f kleene && f relational)) → (ρ : Reading) → T (f ρ)
reading-at f t strict = &&-fst (f strict) (f kleene && f relational) t
reading-at f t kleene = &&-fst (f kleene) (f relational) (&&-snd (f strict) (f kleene && f relational) t)
reading-at f t relational = &&-snd (f kleene) (f relational) (&&-snd (f strict) (f kleene && f relational) t)

-- the three readings
abbrev pub readings : Finite Reading
readings = record { each = λ f. f strict && (f kleene && f relational); at = reading-at }

-- A test passed by the four connectives is passed by each.
pub connective-at : (f : Connective → Bool) → T ((f conj && f disj) && (f implies && f iff)) → (c : Connective) → T (f c)
connective-at f t conj = &&-fst (f conj) (f disj) (&&-fst (f conj && f disj) (f implies && f iff) t)
connective-at f t disj = &&-snd (f conj) (f disj) (&&-fst (f conj && f disj) (f implies && f iff) t)
connective-at f t implies = &&-fst (f implies) (f iff) (&&-snd (f conj && f disj) (f implies && f iff) t)
connective-at f t iff = &&-snd (f implies) (f iff) (&&-snd (f conj && f disj) (f implies && f iff) t)

-- and, or, implies, iff
abbrev pub connectives : Finite Connective
connectives = record { each = λ f. (f conj && f disj) && (f implies && f iff); at = connective-at }

-- A test passed by undefined, true and false is passed by each.
pub truth-at : (f : Option Bool → Bool) → T (f none && (f (some true) && f (some false))) → (x : Option Bool) → T (f x)
truth-at f t none = &&-fst (f none) (f (some true) && f (some false)) t
truth-at f t (some b) = bool_at (λ b. f (some b)) (&&-snd (f none) (f (some true) && f (some false)) t) b

-- undefined, true and false
abbrev pub truths : Finite (Option Bool)
truths = record { each = λ f. f none && (f (some true) && f (some false)); at = truth-at }

-- ---- from a test to an equation

-- Truth values that pass the test are equal.
pub beq→≡ : (a b : Bool) → T (beq a b) → a ≡ b
beq→≡ true true t = refl
beq→≡ true false t = absurd t
beq→≡ false true t = absurd t
beq→≡ false false t = refl

-- x is defined and is b
abbrev pub is_some : Option Bool → Bool → Bool
is_some none b = false
is_some (some a) b = beq a b

-- That test is an equation.
pub is_some→≡ : (x : Option Bool) (b : Bool) → T (is_some x b) → x ≡ some b
is_some→≡ none b t = absurd t
is_some→≡ (some a) b t = ap some (beq→≡ a b t)

-- A test that is asked only where two truth values are the same passes where they are.
pub implied : (a b t : Bool) → T (not (beq a b) || t) → a ≡ b → T t
implied true true t u e = u
implied true false t u e = absurd (true≢false e)
implied false true t u e = absurd (false≢true e)
implied false false t u e = u

-- the same truth value, undefined included
abbrev pub same : Option Bool → Option Bool → Bool
same none none = true
same none (some b) = false
same (some a) none = false
same (some a) (some b) = beq a b

-- That test is an equation too,
pub same→≡ : (x y : Option Bool) → T (same x y) → x ≡ y
same→≡ none none t = refl
same→≡ none (some b) t = absurd t
same→≡ (some a) none t = absurd t
same→≡ (some a) (some b) t = ap some (beq→≡ a b t)

-- and an equation passes it.
pub ≡→same : {x y : Option Bool} → x ≡ y → T (same x y)
≡→same {x} {y} e = rw e (go y)
  where
    go : (z : Option Bool) → T (same z z)
    go none = tt
    go (some true) = tt
    go (some false) = tt
