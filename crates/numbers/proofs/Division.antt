-- The test for the same number, magnitudes, the bounds of quotient and remainder, and that a is b times (a div b) plus (a mod b).
use mathlib.Core.Path.{◌≡◌, refl, ap, ◌∙◌}
use Prim.Native.Nat.{ℕ, zero, suc, ◌+◌, ◌*◌, ◌/◌, ◌%◌, ◌≤◌, ◌<◌}
use native.Mathlib.Omega.{arith}
use native.Mathlib.Nat.{div-le_self, mod-le, mod-lt, mod-add-div}
use mathlib.Core.Bool.{not}
use lib.Dec.{T, eqb→eq, eqb_refl, leb→le, le→leb}
use lib.IntN.{ℤ, pos, negsuc, neg_ℤ, ◌+ℤ◌, ◌*ℤ◌, nat_abs, *ℤ-zero, neg_ℤ-+ℤ}
use lib.Signed.{◌≤ℤ◌}
use Rattle.numbers.specs.Limits.{limit}
use Rattle.numbers.specs.Whole.{eq_z, quotient, remainder, within_limit}
use Rattle.numbers.proofs.Parts.{up_neg, dn-neg, nat_abs-parts, ≤→parts, parts→≤}

-- ---- the same number

-- Numbers that pass the test are equal.
pub eq_z→≡ : (a b : ℤ) → T (eq_z a b) → a ≡ b
unfolding eq_z
eq_z→≡ (pos a) (pos b) t = ap pos (eqb→eq a b t)
eq_z→≡ (pos a) (negsuc b) t = absurd t
eq_z→≡ (negsuc a) (pos b) t = absurd t
eq_z→≡ (negsuc a) (negsuc b) t = ap negsuc (eqb→eq a b t)

-- A number passes the test with itself.
pub eq_z-refl : (a : ℤ) → T (eq_z a a)
unfolding eq_z
eq_z-refl (pos a) = eqb_refl a
eq_z-refl (negsuc a) = eqb_refl a

-- ---- magnitudes

-- Negation keeps the magnitude.
pub nat_abs-neg : (a : ℤ) → nat_abs (neg_ℤ a) ≡ nat_abs a
nat_abs-neg (pos zero) = refl
nat_abs-neg (pos (suc n)) = refl
nat_abs-neg (negsuc n) = refl

-- No number between two ends passes both ends' magnitudes.
pub nat_abs-between : {a b : ℤ} (z : ℤ) {m : ℕ} → a ≤ℤ z → z ≤ℤ b → nat_abs a ≤ m → nat_abs b ≤ m → nat_abs z ≤ m
nat_abs-between {a} {b} (pos n) h k p q = omega (arith, ≤→parts (pos n) b k, nat_abs-parts b)
nat_abs-between {a} {b} (negsuc n) h k p q = omega (arith, ≤→parts a (negsuc n) h, nat_abs-parts a)

-- A number of magnitude at most m is at least −m.
pub nat_abs→≥ : (z : ℤ) {m : ℕ} → nat_abs z ≤ m → neg_ℤ (pos m) ≤ℤ z
nat_abs→≥ z {m} h = parts→≤ (neg_ℤ (pos m)) z (omega (arith, nat_abs-parts z, up_neg (pos m), dn-neg (pos m)))

-- And it is at most m.
pub nat_abs→≤ : (z : ℤ) {m : ℕ} → nat_abs z ≤ m → z ≤ℤ pos m
nat_abs→≤ z {m} h = parts→≤ z (pos m) (omega (arith, nat_abs-parts z))

-- A number between two ends within the limit is within the limit.
pub within_limit-between : {a b z : ℤ} → T (within_limit a) → T (within_limit b) → a ≤ℤ z → z ≤ℤ b → T (within_limit z)
unfolding within_limit
within_limit-between {a} {b} {z} p q h k = le→leb (nat_abs z) limit (nat_abs-between z h k (leb→le (nat_abs a) limit p) (leb→le (nat_abs b) limit q))

-- ---- quotient and remainder

-- The quotient is of no greater magnitude than the dividend.
pub nat_abs-quotient-≤ : (a b : ℤ) → nat_abs (quotient a b) ≤ nat_abs a
unfolding quotient
nat_abs-quotient-≤ (pos a) (pos b) = div-le_self a b
nat_abs-quotient-≤ (pos a) (negsuc b) = rw nat_abs-neg (div-le_self a (suc b))
nat_abs-quotient-≤ (negsuc a) (pos b) = rw nat_abs-neg (div-le_self (suc a) b)
nat_abs-quotient-≤ (negsuc a) (negsuc b) = div-le_self (suc a) (suc b)

-- A divisor other than 0 has a magnitude.
pub nat_abs-positive : (b : ℤ) → T (not (eq_z b (pos 0))) → 0 < nat_abs b
unfolding eq_z
nat_abs-positive (pos zero) t = absurd t
nat_abs-positive (pos (suc n)) t = omega arith
nat_abs-positive (negsuc n) t = omega arith

-- The remainder is of less magnitude than the divisor.
pub nat_abs-remainder-< : (a b : ℤ) → T (not (eq_z b (pos 0))) → nat_abs (remainder a b) < nat_abs b
unfolding remainder
nat_abs-remainder-< (pos a) b t = mod-lt a (nat_abs-positive b t)
nat_abs-remainder-< (negsuc a) b t = rw nat_abs-neg (mod-lt (suc a) (nat_abs-positive b t))

-- It is not below 0 where the dividend is not,
pub remainder-≥0 : (a b : ℤ) → pos 0 ≤ℤ a → pos 0 ≤ℤ remainder a b
unfolding remainder
remainder-≥0 (pos a) b h = parts→≤ (pos 0) (pos (a % nat_abs b)) (omega arith)
remainder-≥0 (negsuc a) b h = absurd h.le

-- and not above 0 where the dividend is not.
pub remainder-≤0 : (a b : ℤ) → a ≤ℤ pos 0 → remainder a b ≤ℤ pos 0
unfolding remainder
remainder-≤0 (pos a) b h = parts→≤ (pos (a % nat_abs b)) (pos 0) (omega (arith, ≤→parts (pos a) (pos 0) h, mod-le a (nat_abs b)))
remainder-≤0 (negsuc a) b h = parts→≤ (neg_ℤ (pos (suc a % nat_abs b))) (pos 0) (omega (arith, up_neg (pos (suc a % nat_abs b))))

-- ---- "a is always b times (a div b) plus (a mod b)"

-- For natural numbers,
divided-ℕ : (m n : ℕ) → m ≡ n * (m / n) + m % n
divided-ℕ m n = omega (arith, mod-add-div m n)

-- and for their negatives.
divided-neg : (m n : ℕ) → neg_ℤ (pos m) ≡ neg_ℤ (pos (n * (m / n))) +ℤ neg_ℤ (pos (m % n))
divided-neg m n = ap (λ k. neg_ℤ (pos k)) (divided-ℕ m n) ∙ neg_ℤ-+ℤ (pos (n * (m / n))) (pos (m % n))

-- A number times the negative of another: where the first is not below 0,
pos-*-neg : (b q : ℕ) → pos b *ℤ neg_ℤ (pos q) ≡ neg_ℤ (pos (b * q))
pos-*-neg b zero = let e : 0 ≡ b * 0 = omega arith in *ℤ-zero (pos b) ∙ ap (λ n. neg_ℤ (pos n)) e
pos-*-neg b (suc q) = refl

-- and where it is.
negsuc-*-neg : (b q : ℕ) → negsuc b *ℤ neg_ℤ (pos q) ≡ pos (suc b * q)
negsuc-*-neg b zero = *ℤ-zero (negsuc b) ∙ ap pos (omega arith)
negsuc-*-neg b (suc q) = refl

-- For whole numbers. Nothing is asked of b: what the library gives for n / 0 and n % 0 keeps the law too.
pub divided : (a b : ℤ) → a ≡ (b *ℤ quotient a b) +ℤ remainder a b
unfolding quotient remainder
divided (pos a) (pos b) = ap pos (divided-ℕ a b)
divided (pos a) (negsuc b) = rw (negsuc-*-neg b (a / suc b)) (ap pos (divided-ℕ a (suc b)))
divided (negsuc a) (pos b) = rw (pos-*-neg b (suc a / b)) (divided-neg (suc a) b)
divided (negsuc a) (negsuc b) = divided-neg (suc a) (suc b)
