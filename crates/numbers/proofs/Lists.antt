-- Lists: an element under a function, a list of one value, stores one behind the other, and a list that is filled from its front on.
use mathlib.Core.Path.{◌≡◌, refl, ap, ◌∙◌}
use mathlib.Core.Logic.{⊎_elim}
use Prim.Native.Nat.{ℕ, zero, suc, ◌+◌, ◌≤◌, ◌<◌}
use native.Mathlib.Nat.{not-suc-le-zero, le_of_suc-le-suc}
use native.Mathlib.Omega.{arith}
use mathlib.Core.List.{List, [], ◌∷◌, ◌++◌, map}
use lib.ListN.{length, get_or, set, replicate, length-set, length-replicate, get_or-replicate, get_or-eq_default}
use lib.Seq.{sets, get_or-set_same, get_or-set_other}
use Rattle.numbers.proofs.Naturals.{lt_or_ge}

-- The element at a place of a list, under a function.
pub get_d_map : {A B : Type 0} (f : A → B) (l : List A) (k : ℕ) (d : A) (e : B) → k < length l → get_or (map f l) k e ≡ f (get_or l k d)
get_d_map f [] k d e h = absurd (not-suc-le-zero h)
get_d_map f (x ∷ l) zero d e h = refl
get_d_map f (x ∷ l) (suc k) d e h = get_d_map f l k d e (le_of_suc-le-suc h)

-- Two runs of stores, one behind the other.
pub sets-++ : (l : List ℕ) (i : ℕ) (xs ys : List ℕ) → sets l i (xs ++ ys) ≡ sets (sets l i xs) (i + length xs) ys
sets-++ l i [] ys = let e : i + 0 ≡ i = omega arith in rw e
sets-++ l i (x ∷ xs) ys = sets-++ (set l i x) (suc i) xs ys ∙ ap (λ k. sets (sets (set l i x) (suc i) xs) k ys) (omega arith)

module _ {A : Type 0} where
  -- A list of one value holds it everywhere, and past its end where it is what is missing.
  pub get_d_replicate_same : (n k : ℕ) (d : A) → get_or (replicate n d) k d ≡ d
  get_d_replicate_same n k d =
      ⊎_elim (λ h. get_or-replicate n k d d h) (λ h. get_or-eq_default (replicate n d) d {n = k} (rw length-replicate h)) (lt_or_ge k n)

  -- The first n of `size` elements are f 0, f 1, .., and those behind them are d.
  pub record Filled (d : A) (size : ℕ) (f : ℕ → A) (xs : List A) (n : ℕ) : Type 0 where
    pub sized : length xs ≡ size
    pub before : (k : ℕ) → k < n → get_or xs k d ≡ f k
    pub after : (k : ℕ) → n ≤ k → get_or xs k d ≡ d

  module _ (d : A) (size : ℕ) (f : ℕ → A) where
    -- At first nothing is filled,
    pub filled_none : {xs : List A} → xs ≡ replicate size d → Filled d size f xs 0
    filled_none e =
        rw e (record { sized = length-replicate size d; before = λ k h. absurd (omega arith); after = λ k h. get_d_replicate_same size k d })

    -- and then one element more.
    pub filled_more : {xs : List A} {n : ℕ} → Filled d size f xs n → n < size → {v : A} → v ≡ f n → Filled d size f (set xs n v) (n + 1)
    filled_more {xs} {n} w h {v} e =
        record {
          sized = length-set xs n v ∙ w.sized;
          before = λ k l. ⊎_elim (λ m. get_or-set_other xs n k v d (λ z. omega arith) ∙ w.before k m) (λ m. at_n k (omega arith)) (lt_or_ge k n);
          after = λ k l. get_or-set_other xs n k v d (λ z. omega arith) ∙ w.after k (omega arith);
        }
      where
        at_n : (k : ℕ) → k ≡ n → get_or (set xs n v) k d ≡ f k
        at_n k z = rw z (get_or-set_same xs n v d (omega (arith, w.sized)) ∙ e)
