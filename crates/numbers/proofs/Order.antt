-- The order of whole numbers, the lesser and the greater of two, and how both go with sum, negation and product.
use mathlib.Core.Path.{◌≡◌, refl, ap, ◌∙◌}
use Prim.Native.Nat.{ℕ, suc}
use native.Mathlib.Omega.{arith}
use native.Mathlib.Nat.{mul-le-mul_right}
use mathlib.Core.Bool.{not}
use lib.Dec.{T, nleb→lt}
use lib.IntN.{ℤ, pos, negsuc, neg_ℤ, ◌+ℤ◌, ◌-ℤ◌, ◌*ℤ◌, nat_abs, *ℤ-negsuc}
use lib.Signed.{le_z, ◌≤ℤ◌, le_z_yes, ≤ℤ_refl, yes_non_neg, pos-nat_abs}
use Rattle.numbers.specs.Whole.{least, greatest}
use Rattle.numbers.proofs.Tests.{cond_cases}
use Rattle.numbers.proofs.Parts.{+-parts, up_neg, dn-neg, up-*-pos, dn-*-pos, ≤→parts, parts→≤, parts→≡}

-- Transitivity.
pub ≤_trans : {a b c : ℤ} → a ≤ℤ b → b ≤ℤ c → a ≤ℤ c
≤_trans {a} {b} {c} h k = parts→≤ a c (omega (arith, ≤→parts a b h, ≤→parts b c k))

-- Antisymmetry.
pub ≤-antisym : {a b : ℤ} → a ≤ℤ b → b ≤ℤ a → a ≡ b
≤-antisym {a} {b} h k = parts→≡ a b (omega (arith, ≤→parts a b h, ≤→parts b a k))

-- A failed test gives the order the other way round.
pub le_z-no : {a b : ℤ} → T (not (le_z a b)) → b ≤ℤ a
le_z-no {a = pos a} {b = pos b} t = parts→≤ (pos b) (pos a) (omega (arith, nleb→lt a b t))
le_z-no {a = pos a} {b = negsuc b} t = record { le = tt }
le_z-no {a = negsuc a} {b = pos b} t = absurd t
le_z-no {a = negsuc a} {b = negsuc b} t = parts→≤ (negsuc b) (negsuc a) (omega (arith, nleb→lt b a t))

-- Sums keep the order.
pub +-mono-≤ : {a b c d : ℤ} → a ≤ℤ b → c ≤ℤ d → (a +ℤ c) ≤ℤ (b +ℤ d)
+-mono-≤ {a} {b} {c} {d} h k = parts→≤ (a +ℤ c) (b +ℤ d) (omega (arith, ≤→parts a b h, ≤→parts c d k, +-parts a c, +-parts b d))

-- Negation turns it round.
pub neg-anti-≤ : {a b : ℤ} → a ≤ℤ b → neg_ℤ b ≤ℤ neg_ℤ a
neg-anti-≤ {a} {b} h = parts→≤ (neg_ℤ b) (neg_ℤ a) (omega (arith, ≤→parts a b h, up_neg a, up_neg b, dn-neg a, dn-neg b))

-- A factor that is not negative keeps the order.
pub *-pos-mono-≤ : {a b : ℤ} (n : ℕ) → a ≤ℤ b → (a *ℤ pos n) ≤ℤ (b *ℤ pos n)
*-pos-mono-≤ {a} {b} n h = parts→≤ (a *ℤ pos n) (b *ℤ pos n)
    (omega (arith, mul-le-mul_right n (≤→parts a b h), up-*-pos a n, up-*-pos b n, dn-*-pos a n, dn-*-pos b n))

-- A negative factor turns it round.
pub *-negsuc-anti-≤ : {a b : ℤ} (n : ℕ) → a ≤ℤ b → (b *ℤ negsuc n) ≤ℤ (a *ℤ negsuc n)
*-negsuc-anti-≤ {a} {b} n h = rw (*ℤ-negsuc a n, *ℤ-negsuc b n) (neg-anti-≤ (*-pos-mono-≤ (suc n) h))

-- From the lesser number to the greater is as far as their difference says.
pub +-difference : {a b : ℤ} → a ≤ℤ b → a +ℤ pos (nat_abs (b -ℤ a)) ≡ b
+-difference {a} {b} h =
    ap (λ z. a +ℤ z) (pos-nat_abs (b -ℤ a) (yes_non_neg nonneg))
    ∙ parts→≡ (a +ℤ (b -ℤ a)) b (omega (arith, +-parts a (b -ℤ a), +-parts b (neg_ℤ a), up_neg a, dn-neg a))
  where
    nonneg : pos 0 ≤ℤ (b -ℤ a)
    nonneg = parts→≤ (pos 0) (b -ℤ a) (omega (arith, ≤→parts a b h, +-parts b (neg_ℤ a), up_neg a, dn-neg a))

-- ---- the lesser and the greater

module _ (a b : ℤ) where
  -- What holds of both numbers holds of the lesser.
  pub least-of : (P : ℤ → Type 0) → P a → P b → P (least a b)
  unfolding least
  least-of P p q = cond_cases P (le_z a b) (λ t. p) (λ t. q)

  -- And of the greater.
  pub greatest-of : (P : ℤ → Type 0) → P a → P b → P (greatest a b)
  unfolding greatest
  greatest-of P p q = cond_cases P (le_z a b) (λ t. q) (λ t. p)

  -- The lesser is at most the first.
  pub least-≤ˡ : least a b ≤ℤ a
  unfolding least
  least-≤ˡ = cond_cases (λ z. z ≤ℤ a) (le_z a b) (λ t. ≤ℤ_refl a) (λ t. le_z-no t)

  -- The lesser is at most the second.
  pub least-≤ʳ : least a b ≤ℤ b
  unfolding least
  least-≤ʳ = cond_cases (λ z. z ≤ℤ b) (le_z a b) (λ t. le_z_yes t) (λ t. ≤ℤ_refl b)

  -- The greater is at least the first.
  pub ≤-greatestˡ : a ≤ℤ greatest a b
  unfolding greatest
  ≤-greatestˡ = cond_cases (λ z. a ≤ℤ z) (le_z a b) (λ t. le_z_yes t) (λ t. ≤ℤ_refl a)

  -- The greater is at least the second.
  pub ≤-greatestʳ : b ≤ℤ greatest a b
  unfolding greatest
  ≤-greatestʳ = cond_cases (λ z. b ≤ℤ z) (le_z a b) (λ t. ≤ℤ_refl b) (λ t. le_z-no t)

-- The lesser keeps the order.
pub least-mono-≤ : {a b c d : ℤ} → a ≤ℤ c → b ≤ℤ d → least a b ≤ℤ least c d
least-mono-≤ {a} {b} {c} {d} h k = least-of c d (λ z. least a b ≤ℤ z) (≤_trans (least-≤ˡ a b) h) (≤_trans (least-≤ʳ a b) k)

-- And so does the greater.
pub greatest-mono-≤ : {a b c d : ℤ} → a ≤ℤ c → b ≤ℤ d → greatest a b ≤ℤ greatest c d
greatest-mono-≤ {a} {b} {c} {d} h k = greatest-of a b (λ z. z ≤ℤ greatest c d) (≤_trans h (≤-greatestˡ c d)) (≤_trans k (≤-greatestʳ c d))

-- The lesser of u and a number not above u is that number.
pub least-absorbs : {u z : ℤ} → z ≤ℤ u → least u z ≡ z
unfolding least
least-absorbs {u} {z} h = cond_cases (λ x. x ≡ z) (le_z u z) (λ t. ≤-antisym (le_z_yes t) h) (λ t. refl)

-- The greater of l and a number not below l is that number.
pub greatest-absorbs : {l z : ℤ} → l ≤ℤ z → greatest l z ≡ z
unfolding greatest
greatest-absorbs {l} {z} h = cond_cases (λ x. x ≡ z) (le_z l z) (λ t. refl) (λ t. ≤-antisym h (le_z-no t))
