-- Ranges: an invariant goes through `over`, and the values of a slot are those of its range.
use Prim.Native.Nat.{ℕ, zero, suc, ◌<◌}
use native.Mathlib.Omega.{arith}
use mathlib.Core.Bool.{Bool, true, ◌&&◌}
use lib.Dec.{T, eqb, eqb→eq}
use lib.IntN.{ℤ, pos, ◌+ℤ◌, ◌-ℤ◌, nat_abs}
use lib.Signed.{le_z, ◌≤ℤ◌, le_z_yes, ≤ℤ_refl}
use Rattle.numbers.proofs.Tests.{cond_cases, &&-intro}
use Rattle.numbers.proofs.Parts.{+-parts, parts→≤}
use Rattle.numbers.proofs.Order.{+-mono-≤, +-difference}
use Rattle.language.specs.Syntax.{Slot}
use Rattle.language.specs.Readings.{over}
use Rattle.language.specs.Meaning.{Setting, put, count, throughout}

module _ {A B : Type 0} (f : A → A → A) (f' : B → B → B) (low : ℤ) (g : ℤ → A) (g' : ℤ → B) (R : ℕ → A → B → Type 0) where
  -- A relation that holds at the start and goes from each value of the range to the next holds of the two results.
  pub over-relates : {a : A} {b : B} → R 0 a b → (n : ℕ) →
      ((k : ℕ) → k < n → (x : A) (y : B) → R k x y → R (suc k) (f x (g (low +ℤ pos k))) (f' y (g' (low +ℤ pos k)))) →
      R n (over f a low n g) (over f' b low n g')
  unfolding over
  over-relates start zero step = start
  over-relates start (suc n) step = step n (omega arith) _ _ (over-relates start n (λ k h. step k (omega arith)))

-- What holds for each value of a range holds throughout.
pub throughout-all : (low : ℤ) (n : ℕ) (g : ℤ → Bool) → ((k : ℕ) → k < n → T (g (low +ℤ pos k))) → T (throughout low n g)
unfolding throughout
throughout-all low n g h = over-relates ◌&&◌ ◌&&◌ low g g (λ k x y. T x) {b = true} tt n (λ k l x y t. &&-intro x (g (low +ℤ pos k)) t (h k l))

-- What holds of the slot s at d, and of each slot at its value in σ, holds of each slot once d is put.
pub put-cases : (P : ℕ → ℤ → Type 0) (σ : Setting) (s : ℕ) (d : ℤ) → P s d → ((t : ℕ) → P t (σ t)) → (t : ℕ) → P t (put σ s d t)
unfolding put
put-cases P σ s d p q t = cond_cases (P t) (eqb t s) (λ e. rw (eqb→eq t s e) p) (λ e. q t)

module _ (s : Slot) (k : ℕ) where
  -- No value of a slot is below its low end.
  pub low-≤-slot-value : s.low ≤ℤ (s.low +ℤ pos k)
  low-≤-slot-value = parts→≤ s.low (s.low +ℤ pos k) (omega (arith, +-parts s.low (pos k)))

  -- None is above the high end.
  pub slot-value-≤-high : k < count s → (s.low +ℤ pos k) ≤ℤ s.high
  unfolding count
  slot-value-≤-high = cond_cases (λ n. k < n → (s.low +ℤ pos k) ≤ℤ s.high) (le_z s.low s.high) counted (λ t h. absurd (omega arith))
    where
      width : ℕ
      width = nat_abs (s.high -ℤ s.low)

      counted : T (le_z s.low s.high) → k < suc width → (s.low +ℤ pos k) ≤ℤ s.high
      counted t h = rw (+-difference (le_z_yes t)) at (+-mono-≤ (≤ℤ_refl s.low) (parts→≤ (pos k) (pos width) (omega arith)))
