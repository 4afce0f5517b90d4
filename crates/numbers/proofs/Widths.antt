-- Signed machine integers of 32 and 64 bits: what fits the narrow width fits the wide one, and so do quotients and remainders of narrow
-- numbers. And the limit as the code tests it.
use mathlib.Core.Path.{◌≡◌, refl, sym, ◌∙◌}
use Prim.Native.Nat.{ℕ, suc, ◌-◌, ◌^◌, ◌≤◌, ◌<◌}
use native.Mathlib.Omega.{arith}
use native.Mathlib.Nat.{pos_of_ne-zero}
use mathlib.Core.Bool.{Bool, true, false}
use borrow.Author.Tests.{leb-true, leb-false, le-leb, lt-leb, eq-eqb, ne_eqb, eqb-false}
use lib.Dec.{T, eqb, eqb→eq, eqb_refl}
use lib.IntN.{ℤ, pos, negsuc, nat_abs}
use lib.Signed.{le_z, quot_z, rem_z, mag_rem}
use mir.Syntax.{w32, w64}
use mir.Val.{SFits, to_z, of_z}
use mir.Facts.{to_z-of_z}
use Rattle.numbers.specs.Limits.{limit}
use Rattle.numbers.specs.Whole.{eq_z, quotient, within_limit}
use Rattle.numbers.proofs.Tests.{T-iff}
use Rattle.numbers.proofs.Division.{nat_abs-quotient-≤}
use Rattle.numbers.proofs.Magnitudes.{nat_abs→fits}

-- What fits 32 bits fits 64.
pub widens : (z : ℤ) → SFits w32 z → SFits w64 z
widens z h = omega (arith, h.sfits)

-- ---- what the machine hands on: a signed number goes through its bits

-- a narrow number read from its bits, widened, and read from its bits again
abbrev pub through : ℤ → ℤ
through z = to_z w64 (of_z w64 (to_z w32 (of_z w32 z)))

-- It arrives as it was.
pub arrives : (z : ℤ) → SFits w32 z → through z ≡ z
arrives z f = rw (to_z-of_z f, to_z-of_z (widens z f))

module _ (f : ℤ → ℤ → ℤ) (a b : ℤ) (p : SFits w32 a) (q : SFits w32 b) (fits : SFits w64 (f a b)) where
  -- What an operation makes of two narrow numbers fits where the definition's result does.
  pub result_fits : SFits w64 (f (through a) (through b))
  result_fits = rw (arrives a p, arrives b q) fits

  -- And it is that result.
  pub result_arrives : to_z w64 (of_z w64 (f (through a) (through b))) ≡ f a b
  result_arrives = rw (arrives a p, arrives b q) (to_z-of_z fits)

-- ---- bounds

-- A number that fits 32 bits has a magnitude of at most 2 ^ 31.
pub nat_abs-fits : (z : ℤ) → SFits w32 z → nat_abs z ≤ 2 ^ 31
nat_abs-fits (pos n) h = omega (arith, h.sfits)
nat_abs-fits (negsuc n) h = h.sfits

pub quotient_fits : (a b : ℤ) → SFits w32 a → SFits w64 (quot_z a b)
unfolding quotient
quotient_fits a b p = nat_abs→fits (quot_z a b) (omega (arith, nat_abs-quotient-≤ a b, nat_abs-fits a p))

-- The remainder of the machine has no greater magnitude than the dividend.
pub rem-fits : (a b : ℤ) → SFits w32 a → SFits w32 (rem_z a b)
rem-fits a b p = record { sfits = omega (arith, mag_rem a b, p.sfits) }

-- ---- the same number, by its bits

same_bits : (a b : ℕ) → a < 2 ^ 31 → b < 2 ^ 31 → eqb (2 ^ 32 - suc a) (2 ^ 32 - suc b) ≡ eqb a b
same_bits a b p q =
    T-iff (eqb (2 ^ 32 - suc a) (2 ^ 32 - suc b)) (eqb a b) (λ t. same a b (omega (arith, eqb→eq (2 ^ 32 - suc a) (2 ^ 32 - suc b) t)))
    (λ t. rw (eqb→eq a b t) (eqb_refl (2 ^ 32 - suc b)))
  where
    same : (a b : ℕ) → a ≡ b → T (eqb a b)
    same a b e = rw e (eqb_refl b)

-- Narrow numbers are the same where their bits are.
pub eq_bits : (a b : ℤ) → SFits w32 a → SFits w32 b → eqb (of_z w32 a) (of_z w32 b) ≡ eq_z a b
unfolding eq_z
eq_bits (pos a) (pos b) p q = refl
eq_bits (pos a) (negsuc b) p q = ne_eqb a (2 ^ 32 - suc b) (λ e. omega (arith, e, p.sfits, q.sfits))
eq_bits (negsuc a) (pos b) p q = ne_eqb (2 ^ 32 - suc a) b (λ e. omega (arith, e, p.sfits, q.sfits))
eq_bits (negsuc a) (negsuc b) p q = same_bits a b p.sfits q.sfits

-- All bits are 0: the number is 0.
pub zero_bits : (a : ℤ) → SFits w32 a → of_z w32 a ≡ 0 → eq_z a (pos 0) ≡ true
zero_bits a p e = sym (eq_bits a (pos 0) p (record { sfits = omega arith })) ∙ eq-eqb (of_z w32 a) 0 e

pub nonzero_bits : (a : ℤ) → SFits w32 a → (of_z w32 a ≡ 0 → ⊥) → eq_z a (pos 0) ≡ false
nonzero_bits a p e = sym (eq_bits a (pos 0) p (record { sfits = omega arith })) ∙ ne_eqb (of_z w32 a) 0 e

-- A divisor other than 0, widened, has some bit.
pub divisor-bits : (a : ℤ) → SFits w32 a → eq_z a (pos 0) ≡ false → 0 < of_z w64 a
unfolding eq_z
divisor-bits (pos a) p e = pos_of_ne-zero (eqb-false a 0 e)
divisor-bits (negsuc a) p e = omega (arith, p.sfits)

-- ---- the limit

-- The two tests of the code are the limit's.
pub within : (z : ℤ) → le_z (negsuc 1_999_999_999) z ≡ true → le_z z (pos 2_000_000_000) ≡ true → within_limit z ≡ true
unfolding within_limit
within (pos n) l h = h
within (negsuc n) l h = le-leb (suc n) limit (omega (arith, leb-true n 1_999_999_999 l))

pub not_above : (z : ℤ) → le_z z (pos 2_000_000_000) ≡ false → within_limit z ≡ false
unfolding within_limit
not_above (pos n) h = h
not_above (negsuc n) h = let z : ◌≡◌ {A = Bool} true false = h in cc

pub not_below : (z : ℤ) → le_z (negsuc 1_999_999_999) z ≡ false → within_limit z ≡ false
unfolding within_limit
not_below (pos n) h = let z : ◌≡◌ {A = Bool} true false = h in cc
not_below (negsuc n) h = lt-leb (suc n) limit (omega (arith, leb-false n 1_999_999_999 h))

-- What is within the limit fits 32 bits.
pub limit-fits : (z : ℤ) → within_limit z ≡ true → SFits w32 z
unfolding within_limit
limit-fits (pos n) h = record { sfits = omega (arith, leb-true n limit h) }
limit-fits (negsuc n) h = record { sfits = omega (arith, leb-true (suc n) limit h) }
