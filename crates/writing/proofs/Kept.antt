-- Positions kept one after the other, in places that hold 0 before.
use mathlib.Core.Path.{◌≡◌, refl, sym, ◌∙◌}
use mathlib.Core.Logic.{⊎_elim}
use Prim.Native.Nat.{ℕ, suc, ◌+◌, ◌≤◌, ◌<◌}
use native.Mathlib.Omega.{arith}
use mathlib.Core.List.{List, [], ◌∷◌, ◌++◌}
use lib.ListN.{length, get_or, set, replicate, length-append, length-set, length-replicate, get_or-append, get_or-eq_default}
use lib.Seq.{get_or_at, get_or-set_same, get_or-set_other}
use Rattle.numbers.proofs.Naturals.{lt_or_ge}
use Rattle.numbers.proofs.Lists.{get_d_replicate_same}

-- The places hold these positions, and 0 behind them.
pub record Kept (ps places : List ℕ) (n : ℕ) : Type 0 where
  pub sized : length places ≡ 5_000
  pub counted : length ps ≡ n
  pub held : (k : ℕ) → get_or places k 0 ≡ get_or ps k 0

-- At first there are none,
pub no-positions : {places : List ℕ} → places ≡ replicate 5_000 0 → Kept [] places 0
no-positions e = rw e (record { sized = length-replicate {A = ℕ} 5_000 0; counted = refl; held = λ k. get_d_replicate_same {A = ℕ} 5_000 k 0 })

-- and each is stored behind those before it.
pub one-position-more : {ps places : List ℕ} {n : ℕ} → Kept ps places n → n < 5_000 → (v : ℕ) → Kept (ps ++ (v ∷ [])) (set places n v) (n + 1)
one-position-more {ps} {places} {n} w h v =
    record {
      sized = length-set places n v ∙ w.sized;
      counted = length-append ps (v ∷ []) ∙ omega (arith, w.counted);
      held = λ k. ⊎_elim (λ l. before k l) (λ l. ⊎_elim (λ m. at k (omega arith)) (λ m. behind k m) (lt_or_ge k (suc n))) (lt_or_ge k n);
    }
  where
    before : (k : ℕ) → k < n → get_or (set places n v) k 0 ≡ get_or (ps ++ (v ∷ [])) k 0
    before k l = get_or-set_other places n k v 0 (λ z. omega arith) ∙ w.held k ∙ sym (get_or-append ps (v ∷ []) 0 k (omega (arith, w.counted)))

    at : (k : ℕ) → k ≡ n → get_or (set places n v) k 0 ≡ get_or (ps ++ (v ∷ [])) k 0
    at k e = rw e (get_or-set_same places n v 0 (omega (arith, w.sized)) ∙ sym (get_or_at ps v [] 0 n w.counted))

    behind : (k : ℕ) → suc n ≤ k → get_or (set places n v) k 0 ≡ get_or (ps ++ (v ∷ [])) k 0
    behind k l = get_or-set_other places n k v 0 (λ z. omega arith) ∙ w.held k ∙ get_or-eq_default ps 0 {n = k} (omega (arith, w.counted)) ∙ sym (get_or-eq_default (ps ++ (v ∷ [])) 0 {n = k} (omega (arith, length-append ps (v ∷ []), w.counted)))
