-- Whole numbers: the order as tests, least and greatest, document 01's quotient, request L3's remainder, and what is within the limit.
-- The integers, their sum, difference and product, and the tests `le_z` and `lt_z` are the library's.
use Rattle.std.specs.Prelude.{Bool, false, cond, ◌&&◌, eqb, leb, ℤ, pos, negsuc, nat_abs}
use Rattle.std.specs.Int.Signed.{le_z, quot_z, rem_z}
use Rattle.numbers.specs.Limits.{limit}

-- the same number
unfoldable pub eq_z : ℤ → ℤ → Bool
eq_z (pos a) (pos b) = eqb a b
eq_z (pos a) (negsuc b) = false
eq_z (negsuc a) (pos b) = false
eq_z (negsuc a) (negsuc b) = eqb a b

-- the lesser and the greater of two numbers
unfoldable pub least : ℤ → ℤ → ℤ
least a b = cond (le_z a b) a b

unfoldable pub greatest : ℤ → ℤ → ℤ
greatest a b = cond (le_z a b) b a

-- low ≤ z ≤ high
unfoldable pub between : ℤ → ℤ → ℤ → Bool
between low high z = le_z low z && le_z z high

-- "The quotient is cut toward zero: −7 div 2 is −3." Only a divisor other than 0 is asked for.
unfoldable pub quotient : ℤ → ℤ → ℤ
quotient a b = quot_z a b

-- "MiniZinc gives the remainder the sign of the dividend": −7 mod 2 is −1, and 7 mod −2 is 1. It is what the quotient cut toward zero leaves: "a is always b
-- times (a div b) plus (a mod b)". Only a divisor other than 0 is asked for.
unfoldable pub remainder : ℤ → ℤ → ℤ
remainder a b = rem_z a b

-- within "±2,000,000,000"
unfoldable pub within_limit : ℤ → Bool
within_limit z = leb (nat_abs z) limit
