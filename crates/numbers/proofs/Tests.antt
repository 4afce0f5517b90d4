-- Tests as facts: a case split on a test, and two tests joined.
use mathlib.Core.Path.{◌≡◌, refl}
use mathlib.Core.Bool.{Bool, true, false, not, cond, ◌&&◌, ◌||◌}
use mathlib.Core.Logic.{◌⊎◌, inl, inr, ⊎_elim}
use lib.Dec.{T}

-- A case split on a test, with what the test says in each case.
pub cond_cases : {A : Type 0} (P : A → Type 0) (c : Bool) {x y : A} → (T c → P x) → (T (not c) → P y) → P (cond c x y)
cond_cases P true f g = f tt
cond_cases P false f g = g tt

-- A passed test is true.
pub T→≡true : (a : Bool) → T a → a ≡ true
T→≡true true t = refl
T→≡true false t = absurd t

-- A failed test is false.
pub Tnot→≡false : (a : Bool) → T (not a) → a ≡ false
Tnot→≡false true t = absurd t
Tnot→≡false false t = refl

-- Two tests that pass pass together.
pub &&-intro : (a b : Bool) → T a → T b → T (a && b)
&&-intro true b p q = q
&&-intro false b p q = p

-- Of two tests that pass together the first passes.
pub &&-fst : (a b : Bool) → T (a && b) → T a
&&-fst true b t = tt
&&-fst false b t = t

-- And the second.
pub &&-snd : (a b : Bool) → T (a && b) → T b
&&-snd true b t = t
&&-snd false b t = absurd t

-- The same of tests that are true.
pub and_left : (a b : Bool) → (a && b) ≡ true → a ≡ true
and_left true b e = refl
and_left false b e = e

pub and_right : (a b : Bool) → (a && b) ≡ true → b ≡ true
and_right true b e = e
and_right false b e = cc

-- Two tests that pass together are the same.
pub T-iff : (a b : Bool) → (T a → T b) → (T b → T a) → a ≡ b
T-iff true true f g = refl
T-iff true false f g = absurd (f tt)
T-iff false true f g = absurd (g tt)
T-iff false false f g = refl

-- One of two tests has passed where either has,
pub ||-cases : (a b : Bool) → T (a || b) → T a ⊎ T b
||-cases true b t = inl tt
||-cases false b t = inr t

-- and only there.
pub ||-intro : (a b : Bool) → T a ⊎ T b → T (a || b)
||-intro true b w = tt
||-intro false b w = ⊎_elim (λ t. absurd t) (λ t. t) w
