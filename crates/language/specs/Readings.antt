-- The three readings on values alone: what an operation makes of operands that may be undefined (`none`).
-- "Each value is an integer, a truth value or undefined": an integer node's value is an `Option ℤ`, a Boolean node's an
-- `Option Bool`. The reading is a parameter, and the readings part in two places only: `connective` and `atomic`.
use Rattle.std.specs.Prelude.{ℕ, zero, suc, Bool, true, false, cond, not, ◌&&◌, ◌||◌, ℤ, pos, ◌+ℤ◌, ◌-ℤ◌, ◌*ℤ◌}
use Rattle.std.specs.Bool.{beq}
use Rattle.std.proofs.Math.Option.{Option, none, some, map}
use Rattle.std.specs.Int.Signed.{le_z, lt_z}
use Rattle.numbers.specs.Whole.{eq_z, quotient, remainder}
use Rattle.numbers.specs.Whole as Whole
use Rattle.language.specs.Syntax.{Arithmetic, plus, minus, times, minimum, maximum, Division, quot, rem, Connective, conj, disj, implies, iff, Comparison, equal, unequal, at_most, below, Quantifier, exists, forall}

-- "Choice 1 strict, 2 Kleene, 3 relational."
pub data Reading : Type 0 where
  strict kleene relational : Reading

-- ---- what the readings share

-- "undefined if an operand is": f of two operands, both defined
unfoldable pub both : {A B C : Type 0} → (A → B → Option C) → Option A → Option B → Option C
both f (some a) (some b) = f a b
both f (some a) none = none
both f none b = none

unfoldable pub arithmetic : Arithmetic → ℤ → ℤ → ℤ
arithmetic plus a b = a +ℤ b
arithmetic minus a b = a -ℤ b
arithmetic times a b = a *ℤ b
arithmetic minimum a b = Whole.least a b
arithmetic maximum a b = Whole.greatest a b

unfoldable pub part : Division → ℤ → ℤ → ℤ
part quot a b = quotient a b
part rem a b = remainder a b

-- "div and mod by 0 .. are undefined"
unfoldable pub division : Division → ℤ → ℤ → Option ℤ
division op a b = cond (eq_z b (pos 0)) none (some (part op a b))

unfoldable pub comparison : Comparison → ℤ → ℤ → Bool
comparison equal a b = eq_z a b
comparison unequal a b = not (eq_z a b)
comparison at_most a b = le_z a b
comparison below a b = lt_z a b

-- ordinary logic
unfoldable pub logic : Connective → Bool → Bool → Bool
logic conj a b = a && b
logic disj a b = a || b
logic implies a b = not a || b
logic iff a b = beq a b

-- ---- where they part

-- "Strict: any node with an undefined operand is undefined"
unfoldable pub strictly : Connective → Option Bool → Option Bool → Option Bool
strictly c a b = both (λ x y. some (logic c x y)) a b

-- "Kleene's tables for connectives": false settles an and, true settles an or, whatever the other operand is
unfoldable pub kleene_and : Option Bool → Option Bool → Option Bool
kleene_and (some false) b = some false
kleene_and (some true) b = b
kleene_and none (some false) = some false
kleene_and none (some true) = none
kleene_and none none = none

unfoldable pub kleene_or : Option Bool → Option Bool → Option Bool
kleene_or (some true) b = some true
kleene_or (some false) b = b
kleene_or none (some true) = some true
kleene_or none (some false) = none
kleene_or none none = none

-- not, in each reading: "undefined if an operand is"
unfoldable pub opposite : Option Bool → Option Bool
opposite a = map not a

unfoldable pub kleenely : Connective → Option Bool → Option Bool → Option Bool
kleenely conj a b = kleene_and a b
kleenely disj a b = kleene_or a b
kleenely implies a b = kleene_or (opposite a) b
kleenely iff a b = strictly iff a b

-- "Relational: .. everything Boolean above is ordinary logic": no truth value is undefined there (`atomic`), and where none is,
-- Kleene's tables are ordinary logic.
unfoldable pub connective : Reading → Connective → Option Bool → Option Bool → Option Bool
connective strict c a b = strictly c a b
connective kleene c a b = kleenely c a b
connective relational c a b = kleenely c a b

-- The value of a comparison or a Boolean lookup. "Relational: a comparison or Boolean lookup with an undefined operand, or with
-- its index outside, is false"; under strict and Kleene it is undefined.
unfoldable pub atomic : Reading → Option Bool → Option Bool
atomic strict v = v
atomic kleene v = v
atomic relational none = some false
atomic relational (some b) = some b

-- ---- ranges

-- f over n values from low up, from the left, beginning with a: ((a f g low) f g (low + 1)) f .. f g (low + n − 1)
unfoldable pub over : {A : Type 0} → (A → A → A) → A → ℤ → ℕ → (ℤ → A) → A
over f a low zero g = a
over f a low (suc n) g = f (over f a low n g) (g (low +ℤ pos n))

-- "quantifiers as or/and over the range"; "over an empty range exists is false and forall is true"
unfoldable pub joins : Quantifier → Connective
joins exists = disj
joins forall = conj

unfoldable pub of_none : Quantifier → Bool
of_none exists = false
of_none forall = true

unfoldable pub quantified : Reading → Quantifier → ℤ → ℕ → (ℤ → Option Bool) → Option Bool
quantified ρ q = over (connective ρ (joins q)) (some (of_none q))

-- "a sum is undefined if its body is for some slot value; an empty sum is 0"
unfoldable pub summed : ℤ → ℕ → (ℤ → Option ℤ) → Option ℤ
summed = over (both (λ a b. some (a +ℤ b))) (some (pos 0))
