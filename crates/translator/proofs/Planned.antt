-- The plan of each kind under each reading, by computed tests.
use mathlib.Core.Path.{◌≡◌, refl, sym, ap, ◌∙◌}
use Prim.Native.Nat.{ℕ, ◌+◌, ◌≤◌, ◌<◌}
use native.Mathlib.Omega.{arith}
use mathlib.Core.Bool.{true}
use borrow.Author.Tests.{leb-true}
use lib.Dec.{leb}
use lib.ListN.{length, get_or, drop, length-drop}
use lib.Seq.{length-take-le}
use Rattle.language.specs.Readings.{Reading, strict, kleene, relational}
use Rattle.answers.specs.Sections.{listed}
use Rattle.answers.proofs.Listed.{get_d_listed}
use Rattle.translator.specs.Plans.{rule_rows, rules, under, plan_at, rows_of, plan_rows}

-- Functions that list the same agree.
pub same-below : {A : Type 0} (n : ℕ) (f g : ℕ → A) → listed n f ≡ listed n g → (k : ℕ) → k < n → f k ≡ g k
same-below n f g e k h = sym (get_d_listed n f (f k) k h) ∙ ap (λ l. get_or l k (f k)) e ∙ get_d_listed n g (f k) k h

-- Each plan's rows are among the rows,
within : (ρ : Reading) → listed 31 (λ k. leb ((plan_at ρ k).from + (plan_at ρ k).count) 126) ≡ listed 31 (λ k. true)
unfolding plan_at under rules listed
within strict = refl
within kleene = refl
within relational = refl

length-rows : length rule_rows ≡ 126
unfolding rule_rows
length-rows = refl

pub rows_fit : (ρ : Reading) (k : ℕ) → k < 31 → (plan_at ρ k).from + (plan_at ρ k).count ≤ 126
rows_fit ρ k h = leb-true _ _ (same-below 31 (λ k. leb ((plan_at ρ k).from + (plan_at ρ k).count) 126) (λ k. true) (within ρ) k h)

-- and as many as it says.
pub length-plan_rows : (ρ : Reading) (k : ℕ) → k < 31 → length (plan_rows ρ k) ≡ (plan_at ρ k).count
unfolding plan_rows rows_of
length-plan_rows ρ k h = let f = rows_fit ρ k h in length-take-le (plan_at ρ k).count (drop (plan_at ρ k).from rule_rows) (omega (arith, length-drop (plan_at ρ k).from rule_rows, length-rows))
