-- "Bounds before translation: each integer node has an interval."
use Rattle.std.specs.Prelude.{ℕ, ◌-◌, max, Bool, true, ◌&&◌, List, [], ◌∷◌, ℤ, pos, neg_ℤ, ◌+ℤ◌, ◌-ℤ◌, ◌*ℤ◌, nat_abs, get_or}
use Rattle.numbers.specs.Whole as Whole
use Rattle.numbers.specs.Whole.{within_limit}
use Rattle.language.specs.Syntax.{Arithmetic, plus, minus, times, minimum, maximum, Division, quot, rem, IExp, constant, variable, slot, arith, divide, negate, bool_to_int, lookup, sum, iref, integer, Variable, Slot, Element, fixed, of_variable, Declarations}
use Rattle.language.specs.Tables.{Tree, whole, bool}
use Rattle.language.specs.Meaning.{slot_at, array_at, count}

-- low..high
pub record Interval : Type 0 where
  pub low : ℤ
  pub high : ℤ

infix 4 ◌to◌
abbrev pub ◌to◌ : ℤ → ℤ → Interval
a to b = record { low = a; high = b }

-- a magnitude that no value of the interval passes
unfoldable pub magnitude : Interval → ℕ
magnitude i = max (nat_abs i.low) (nat_abs i.high)

-- the least interval that holds both
unfoldable pub hull : Interval → Interval → Interval
hull i j = Whole.least i.low j.low to Whole.greatest i.high j.high

-- x..x
unfoldable pub only : ℤ → Interval
only z = z to z

-- "multiply the least and greatest of four products"
unfoldable pub products : Interval → Interval → Interval
products i j =
    hull (hull (only (i.low *ℤ j.low)) (only (i.low *ℤ j.high))) (hull (only (i.high *ℤ j.low)) (only (i.high *ℤ j.high)))

-- "add, min, max end by end; subtract .. the least and greatest value that the operands' ends give"
unfoldable pub arith_interval : Arithmetic → Interval → Interval → Interval
arith_interval plus i j = i.low +ℤ j.low to i.high +ℤ j.high
arith_interval minus i j = i.low -ℤ j.high to i.high -ℤ j.low
arith_interval times i j = products i j
arith_interval minimum i j = Whole.least i.low j.low to Whole.least i.high j.high
arith_interval maximum i j = Whole.greatest i.low j.low to Whole.greatest i.high j.high

-- −m..m
unfoldable pub around : ℕ → Interval
around m = neg_ℤ (pos m) to pos m

-- "div −M..M with M the largest magnitude of the left operand"; "the mod interval becomes −k..k with k = max(0, m−1)", with m the divisor's largest
-- magnitude
unfoldable pub divide_interval : Division → Interval → Interval → Interval
divide_interval quot i j = around (magnitude i)
divide_interval rem i j = around (magnitude j - 1)

-- "slot its range (x..x if empty)"
unfoldable pub slot_interval : Slot → Interval
slot_interval s = s.low to Whole.greatest s.low s.high

-- "variable its domain"
unfoldable pub no_variable : Variable
no_variable = record { sort = integer; low = pos 0; high = pos 0 }

module _ (Γ : Declarations) where
  unfoldable pub variable_at : ℕ → Variable
  variable_at v = get_or Γ.variables v no_variable

  unfoldable pub variable_interval : ℕ → Interval
  variable_interval v = (variable_at v).low to (variable_at v).high

  unfoldable pub element_interval : Element → Interval
  element_interval (fixed z) = only z
  element_interval (of_variable v) = variable_interval v

  -- "lookup the hull of its elements, variables by domain"
  unfoldable pub hull_with : Interval → List Element → Interval
  hull_with i [] = i
  hull_with i (e ∷ es) = hull_with (hull i (element_interval e)) es

  unfoldable pub elements_interval : List Element → Interval
  elements_interval [] = only (pos 0)
  elements_interval (e ∷ es) = hull_with (element_interval e) es

  -- "constant x..x; .. negate ..; boolToInt 0..1; .. sum the body's ends times the slot's count"
  unfoldable pub interval : IExp ⊥ → Interval
  interval (constant z) = only z
  interval (variable v) = variable_interval v
  interval (slot s) = slot_interval (slot_at Γ s)
  interval (arith op a b) = arith_interval op (interval a) (interval b)
  interval (divide op a b) = divide_interval op (interval a) (interval b)
  interval (negate a) = neg_ℤ (interval a).high to neg_ℤ (interval a).low
  interval (bool_to_int a) = pos 0 to pos 1
  interval (lookup A i) = elements_interval (array_at Γ A).elements
  interval (sum s a) = pos (count (slot_at Γ s)) *ℤ (interval a).low to pos (count (slot_at Γ s)) *ℤ (interval a).high
  interval (iref r) = absurd r

  -- neither end of a node's interval is "beyond ±2,000,000,000"; a Boolean node has none
  unfoldable pub within_bounds : Tree → Bool
  within_bounds (whole e) = within_limit (interval e).low && within_limit (interval e).high
  within_bounds (bool e) = true
