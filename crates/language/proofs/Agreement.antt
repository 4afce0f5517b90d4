-- Where every operand is defined the readings agree.
use mathlib.Core.Path.{◌≡◌, refl, ap₂, ◌∙◌}
use mathlib.Core.Bool.{Bool, true, false}
use mathlib.Core.Option.{Option, some}
use Rattle.language.specs.Syntax.{Connective, conj, disj, implies, iff}
use Rattle.language.specs.Readings.{Reading, strict, kleene, relational, both, logic, strictly, kleene_and, kleene_or, opposite, kleenely, connective, atomic}

-- Kleene's tables are ordinary logic there.
kleenely-some : (c : Connective) (a b : Bool) → kleenely c (some a) (some b) ≡ some (logic c a b)
unfolding kleenely kleene_and kleene_or opposite strictly both logic
kleenely-some conj true b = refl
kleenely-some conj false b = refl
kleenely-some disj true b = refl
kleenely-some disj false b = refl
kleenely-some implies true b = refl
kleenely-some implies false b = refl
kleenely-some iff a b = refl

-- A connective of defined operands is ordinary logic in each reading.
pub connective-some : (ρ : Reading) (c : Connective) (a b : Bool) → connective ρ c (some a) (some b) ≡ some (logic c a b)
unfolding connective strictly both
connective-some strict c a b = refl
connective-some kleene c a b = kleenely-some c a b
connective-some relational c a b = kleenely-some c a b

-- The same for operands whose values are known.
pub connective-of : (ρ : Reading) (c : Connective) {v w : Option Bool} {a b : Bool} → v ≡ some a → w ≡ some b → connective ρ c v w ≡ some (logic c a b)
connective-of ρ c {a = a} {b = b} p q = ap₂ (connective ρ c) p q ∙ connective-some ρ c a b

-- A comparison or Boolean lookup with defined operands has its value in each reading.
pub atomic-some : (ρ : Reading) (b : Bool) → atomic ρ (some b) ≡ some b
unfolding atomic
atomic-some strict b = refl
atomic-some kleene b = refl
atomic-some relational b = refl
