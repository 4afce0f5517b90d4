-- A whole number as up − dn, two natural numbers of which one is 0, and what sum, negation, order and magnitude are there: a linear
-- fact about whole numbers is then one `omega`.
use mathlib.Core.Path.{◌≡◌, refl, ap}
use Prim.Native.Nat.{ℕ, zero, suc, ◌+◌, ◌-◌, ◌*◌, ◌≤◌, ◌<◌}
use native.Mathlib.Omega.{arith}
use lib.Dec.{ltb, leb→le, le→leb, ltb→lt, nltb→le}
use lib.IntN.{ℤ, pos, negsuc, neg_ℤ, pred_ℤ, ◌+ℤ◌, ◌*ℤ◌, nat_abs, sub_ℕ}
use lib.Signed.{◌≤ℤ◌}
use Rattle.numbers.proofs.Tests.{cond_cases}

-- what a number has above 0
abbrev pub up : ℤ → ℕ
up (pos n) = n
up (negsuc n) = 0

-- what it has below 0
abbrev pub dn : ℤ → ℕ
dn (pos n) = 0
dn (negsuc n) = suc n

-- The parts of a difference of natural numbers.
subℕ_parts : (a b : ℕ) → up (sub_ℕ a b) + b ≡ dn (sub_ℕ a b) + a
subℕ_parts a b = cond_cases (λ z. up z + b ≡ dn z + a) (ltb a b) (λ t. less a b (ltb→lt a b t)) (λ t. more a b (nltb→le a b t))
  where
    less : (a b : ℕ) → a < b → 0 + b ≡ suc (b - suc a) + a
    less a b h = omega arith

    more : (a b : ℕ) → b ≤ a → a - b + b ≡ 0 + a
    more a b h = omega arith

-- The parts of a sum differ as the sums of the parts do.
pub +-parts : (a b : ℤ) → up (a +ℤ b) + (dn a + dn b) ≡ dn (a +ℤ b) + (up a + up b)
+-parts (pos a) (pos b) = omega arith
+-parts (pos a) (negsuc b) = omega (arith, subℕ_parts a (suc b))
+-parts (negsuc a) (pos b) = omega (arith, subℕ_parts b (suc a))
+-parts (negsuc a) (negsuc b) = omega arith

-- The predecessor is one less.
pub pred_parts : (a : ℤ) → suc (up (pred_ℤ a)) + dn a ≡ dn (pred_ℤ a) + up a
pred_parts (pos zero) = refl
pred_parts (pos (suc n)) = omega arith
pred_parts (negsuc n) = omega arith

-- Negation changes the parts' places.
pub up_neg : (a : ℤ) → up (neg_ℤ a) ≡ dn a
up_neg (pos zero) = refl
up_neg (pos (suc n)) = refl
up_neg (negsuc n) = refl

-- And the other way round.
pub dn-neg : (a : ℤ) → dn (neg_ℤ a) ≡ up a
dn-neg (pos zero) = refl
dn-neg (pos (suc n)) = refl
dn-neg (negsuc n) = refl

-- A natural factor multiplies the part above 0.
pub up-*-pos : (a : ℤ) (n : ℕ) → up (a *ℤ pos n) ≡ up a * n
up-*-pos (pos a) n = refl
up-*-pos (negsuc a) n = omega (arith, up_neg (pos (suc a * n)))

-- And the part below 0.
pub dn-*-pos : (a : ℤ) (n : ℕ) → dn (a *ℤ pos n) ≡ dn a * n
dn-*-pos (pos a) n = omega arith
dn-*-pos (negsuc a) n = dn-neg (pos (suc a * n))

-- The magnitude is both parts together.
pub nat_abs-parts : (a : ℤ) → nat_abs a ≡ up a + dn a
nat_abs-parts (pos n) = omega arith
nat_abs-parts (negsuc n) = omega arith

-- The order, read from the parts.
pub ≤→parts : (a b : ℤ) → a ≤ℤ b → up a + dn b ≤ up b + dn a
≤→parts (pos a) (pos b) h = omega (arith, leb→le a b h.le)
≤→parts (pos a) (negsuc b) h = absurd h.le
≤→parts (negsuc a) (pos b) h = omega arith
≤→parts (negsuc a) (negsuc b) h = omega (arith, leb→le b a h.le)

-- And back.
pub parts→≤ : (a b : ℤ) → up a + dn b ≤ up b + dn a → a ≤ℤ b
parts→≤ (pos a) (pos b) h = record { le = le→leb a b (omega arith) }
parts→≤ (pos a) (negsuc b) h = absurd (omega arith)
parts→≤ (negsuc a) (pos b) h = record { le = tt }
parts→≤ (negsuc a) (negsuc b) h = record { le = le→leb b a (omega arith) }

-- Equal differences are equal numbers.
pub parts→≡ : (a b : ℤ) → up a + dn b ≡ up b + dn a → a ≡ b
parts→≡ (pos a) (pos b) h = ap pos (omega arith)
parts→≡ (pos a) (negsuc b) h = absurd (omega arith)
parts→≡ (negsuc a) (pos b) h = absurd (omega arith)
parts→≡ (negsuc a) (negsuc b) h = ap negsuc (omega arith)
