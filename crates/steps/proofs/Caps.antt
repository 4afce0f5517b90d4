-- Capping first and adding or multiplying afterwards gives the same as capping at the end.
use mathlib.Core.Path.{◌≡◌, sym, ap, ◌∙◌}
use mathlib.Core.Logic.{⊎_elim}
use Prim.Native.Nat.{ℕ, zero, suc, ◌+◌, ◌*◌, ◌≤◌, ◌<◌}
use native.Mathlib.Omega.{arith}
use native.Mathlib.Nat.{suc-mul, zero-mul}
use borrow.Author.Tests.{lt-ltb, le-ltb}
use Rattle.numbers.proofs.Naturals.{lt_or_ge}
use Rattle.steps.specs.Capped.{past_budgets, capped}

pub capped-low : (n : ℕ) → n < past_budgets → capped n ≡ n
unfolding capped
capped-low n h = rw (lt-ltb n past_budgets h)

pub capped-high : (n : ℕ) → past_budgets ≤ n → capped n ≡ past_budgets
unfolding capped
capped-high n h = rw (le-ltb n past_budgets h)

pub capped-≤ : (n : ℕ) → capped n ≤ past_budgets
capped-≤ n = ⊎_elim (λ h. omega (arith, capped-low n h)) (λ h. omega (arith, capped-high n h)) (lt_or_ge n past_budgets)

-- Numbers past all budgets have the same cap.
both_high : (a b : ℕ) → past_budgets ≤ a → past_budgets ≤ b → capped a ≡ capped b
both_high a b h k = capped-high a h ∙ sym (capped-high b k)

-- One operand,
pub capped-plus : (m a : ℕ) → capped (m + capped a) ≡ capped (m + a)
capped-plus m a =
    ⊎_elim
    (λ h. ap (λ k. capped (m + k)) (capped-low a h))
    (λ h. both_high (m + capped a) (m + a) (omega (arith, capped-high a h)) (omega arith))
    (lt_or_ge a past_budgets)

-- and two,
pub capped-sum : (a b : ℕ) → capped (capped a + capped b) ≡ capped (a + b)
capped-sum a b = capped-plus (capped a) b ∙ ap capped {y = b + capped a} (omega arith) ∙ capped-plus b a ∙ ap capped {y = a + b} (omega arith)

-- also with what is added to both.
pub capped-both : (m a b : ℕ) → capped (m + (capped a + capped b)) ≡ capped (m + (a + b))
capped-both m a b = sym (capped-plus m (capped a + capped b)) ∙ ap (λ k. capped (m + k)) (capped-sum a b) ∙ capped-plus m (a + b)

-- 0 times anything is 0; what is past all budgets, times 1 or more, is past them too.
pub capped-times : (m n a : ℕ) → capped (m + n * capped a) ≡ capped (m + n * a)
capped-times m zero a = ap (λ k. capped (m + k)) (zero-mul (capped a) ∙ sym (zero-mul a))
capped-times m (suc n) a =
    ⊎_elim
    (λ h. ap (λ k. capped (m + suc n * k)) (capped-low a h))
    (λ h. both_high (m + suc n * capped a) (m + suc n * a) (omega (arith, capped-high a h, suc-mul n (capped a))) (omega (arith, suc-mul n a)))
    (lt_or_ge a past_budgets)
