-- Trials of the quotient and the remainder at all sign combinations, at 0, ±1, both ends of the limit and −2^31, and of the limit at its ends. Each is
-- one computed claim about a table of rows: a row worked out again is itself.
use mathlib.Core.Path.{◌≡◌, refl}
use mathlib.Core.Bool.{Bool, true, false}
use mathlib.Core.List.{List, [], ◌∷◌, map}
use lib.IntN.{ℤ, pos, negsuc}
use Rattle.numbers.specs.Whole.{quotient, remainder, within_limit}

-- a div b is q and a mod b is r
record Division : Type 0 where
  a : ℤ
  b : ℤ
  q : ℤ
  r : ℤ

abbrev row : ℤ → ℤ → ℤ → ℤ → Division
row a b q r = record { a = a; b = b; q = q; r = r }

-- negsuc n is −(n + 1)
divisions : List Division
divisions =
    row (pos 7) (pos 2) (pos 3) (pos 1)
    ∷ row (negsuc 6) (pos 2) (negsuc 2) (negsuc 0)
    ∷ row (pos 7) (negsuc 1) (negsuc 2) (pos 1)
    ∷ row (negsuc 6) (negsuc 1) (pos 3) (negsuc 0)
    ∷ row (pos 6) (pos 3) (pos 2) (pos 0)
    ∷ row (negsuc 5) (pos 3) (negsuc 1) (pos 0)
    ∷ row (pos 6) (negsuc 2) (negsuc 1) (pos 0)
    ∷ row (negsuc 5) (negsuc 2) (pos 2) (pos 0)
    ∷ row (pos 1) (pos 5) (pos 0) (pos 1)
    ∷ row (negsuc 0) (pos 5) (pos 0) (negsuc 0)
    ∷ row (pos 1) (negsuc 4) (pos 0) (pos 1)
    ∷ row (negsuc 0) (negsuc 4) (pos 0) (negsuc 0)
    ∷ row (pos 0) (pos 5) (pos 0) (pos 0)
    ∷ row (pos 0) (negsuc 4) (pos 0) (pos 0)
    ∷ row (pos 0) (pos 1) (pos 0) (pos 0)
    ∷ row (pos 0) (negsuc 0) (pos 0) (pos 0)
    ∷ row (pos 1) (pos 1) (pos 1) (pos 0)
    ∷ row (pos 1) (negsuc 0) (negsuc 0) (pos 0)
    ∷ row (negsuc 0) (pos 1) (negsuc 0) (pos 0)
    ∷ row (negsuc 0) (negsuc 0) (pos 1) (pos 0)
    ∷ row (pos 2_000_000_000) (pos 1) (pos 2_000_000_000) (pos 0)
    ∷ row (pos 2_000_000_000) (negsuc 0) (negsuc 1_999_999_999) (pos 0)
    ∷ row (negsuc 1_999_999_999) (pos 1) (negsuc 1_999_999_999) (pos 0)
    ∷ row (negsuc 1_999_999_999) (negsuc 0) (pos 2_000_000_000) (pos 0)
    ∷ row (negsuc 1_999_999_999) (pos 1_999_999_999) (negsuc 0) (negsuc 0)
    ∷ row (pos 1_999_999_999) (negsuc 1_999_999_999) (pos 0) (pos 1_999_999_999)
    ∷ row (negsuc 1_999_999_998) (pos 2_000_000_000) (pos 0) (negsuc 1_999_999_998)
    ∷ row (negsuc 1_999_999_998) (negsuc 1_999_999_999) (pos 0) (negsuc 1_999_999_998)
    ∷ row (negsuc 2_147_483_647) (pos 1) (negsuc 2_147_483_647) (pos 0)
    ∷ row (negsuc 2_147_483_647) (negsuc 0) (pos 2_147_483_648) (pos 0)
    ∷ row (negsuc 2_147_483_647) (negsuc 2_147_483_647) (pos 1) (pos 0)
    ∷ row (pos 0) (negsuc 2_147_483_647) (pos 0) (pos 0)
    ∷ row (pos 1) (negsuc 2_147_483_647) (pos 0) (pos 1)
    ∷ row (negsuc 0) (negsuc 2_147_483_647) (pos 0) (negsuc 0)
    ∷ row (negsuc 2_147_483_647) (pos 2_147_483_647) (negsuc 0) (negsuc 0)
    ∷ row (pos 2_147_483_647) (negsuc 2_147_483_647) (pos 0) (pos 2_147_483_647)
    ∷ row (negsuc 2_147_483_646) (negsuc 2_147_483_647) (pos 0) (negsuc 2_147_483_646)
    ∷ []

worked : Division → Division
unfolding quotient remainder
worked d = row d.a d.b (quotient d.a d.b) (remainder d.a d.b)

divisions-hold : map worked divisions ≡ divisions
unfolding worked divisions
divisions-hold = refl

-- the last numbers within the limit and the first beyond it
record Limit : Type 0 where
  z : ℤ
  within : Bool

abbrev at : ℤ → Bool → Limit
at z b = record { z = z; within = b }

limits : List Limit
limits =
    at (pos 2_000_000_000) true
    ∷ at (pos 2_000_000_001) false
    ∷ at (negsuc 1_999_999_999) true
    ∷ at (negsuc 2_000_000_000) false
    ∷ at (pos 0) true
    ∷ []

limits-hold : map (λ l. at l.z (within_limit l.z)) limits ≡ limits
unfolding limits within_limit
limits-hold = refl
