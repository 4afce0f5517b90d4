-- A case split on the first numbers, one by one, and the rest.
use Prim.Native.Nat.{ℕ, zero, suc, ◌<◌}
use native.Mathlib.Omega.{arith}

-- P of each number below n
abbrev pub Below : ℕ → (ℕ → Type 0) → Type 0
Below zero P = Unit {0}
Below (suc n) P = P 0 × Below n (λ k. P (suc k))

-- P of each number, the n before it counted in
abbrev pub From : ℕ → (ℕ → Type 0) → Type 0
From zero P = (k : ℕ) → P k
From (suc n) P = From n (λ k. P (suc k))

pub split : (n : ℕ) (P : ℕ → Type 0) → Below n P → From n P → (k : ℕ) → P k
split zero P few rest k = rest k
split (suc n) P few rest zero = few.0
split (suc n) P few rest (suc k) = split n (λ m. P (suc m)) few.1 rest k

-- The cases below n, read at one number.
pub below_at : (n : ℕ) (P : ℕ → Type 0) → Below n P → (k : ℕ) → k < n → P k
below_at zero P few k h = absurd (omega arith)
below_at (suc n) P few zero h = few.0
below_at (suc n) P few (suc k) h = below_at n (λ m. P (suc m)) few.1 k (omega arith)
