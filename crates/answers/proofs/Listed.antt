-- Laws of `listed`: how long f 0, f 1, .., f (n − 1) is, which element stands where, what holds of each, and when two are the same.
use mathlib.Core.Path.{◌≡◌, refl, sym, ◌∙◌}
use Prim.Native.Nat.{ℕ, zero, suc, ◌≤◌, ◌<◌}
use native.Mathlib.Nat.{not-suc-le-zero, le_of_suc-le-suc}
use native.Mathlib.Omega.{arith}
use native.Mathlib.Decide.{dec_lt}
use mathlib.Core.List.{List, [], ◌∷◌, ◌++◌, map}
use lib.ListN.{length, get_or, take, length-append, get_or-append, get_or-eq_default}
use lib.Seq.{get_or_at, take-append-le, take_all, ext_get_or}
use Rattle.rules.specs.Soundness.{All}
use Rattle.rules.proofs.Every.{All-snoc}
use Rattle.answers.specs.Sections.{listed}

module _ {A : Type 0} where
  -- There are n elements.
  pub length-listed : (n : ℕ) (f : ℕ → A) → length (listed n f) ≡ n
  unfolding listed
  length-listed zero f = refl
  length-listed (suc n) f = simp length-append (omega (arith, length-listed n f))

  -- Element k is f k.
  pub get_d_listed : (n : ℕ) (f : ℕ → A) (d : A) (k : ℕ) → k < n → get_or (listed n f) k d ≡ f k
  unfolding listed
  get_d_listed zero f d k h = absurd (not-suc-le-zero h)
  get_d_listed (suc n) f d k h = go (get_d_listed n f d k) (dec_lt k n)
    where
      go : (k < n → get_or (listed n f) k d ≡ f k) → Dec (k < n) → get_or (listed n f ++ (f n ∷ [])) k d ≡ f k
      go before (yes b) = get_or-append (listed n f) (f n ∷ []) d k (rw length-listed b) ∙ before b
      go before (no b) =
          let e : k ≡ n = omega arith in
          rw e (get_or_at (listed n f) (f n) [] d n (length-listed n f))

  -- Past the last there is nothing.
  pub get_d_listed_past : (n : ℕ) (f : ℕ → A) (d : A) (k : ℕ) → n ≤ k → get_or (listed n f) k d ≡ d
  get_d_listed_past n f d k h = get_or-eq_default (listed n f) d {n = k} (rw length-listed h)

  -- The first k of them are listed by the same function.
  pub take-listed : (k n : ℕ) (f : ℕ → A) → k ≤ n → take k (listed n f) ≡ listed k f
  unfolding listed
  take-listed k zero f h = let e : k ≡ 0 = omega arith in rw e
  take-listed k (suc n) f h = go (λ b. take-listed k n f b) (dec_lt k (suc n))
    where
      go : (k ≤ n → take k (listed n f) ≡ listed k f) → Dec (k < suc n) → take k (listed n f ++ (f n ∷ [])) ≡ listed k f
      go before (yes b) = take-append-le k (listed n f) (f n ∷ []) (omega (arith, length-listed n f)) ∙ before (omega arith)
      go before (no b) =
          let e : k ≡ suc n = omega arith in
          rw e (take_all (suc n) (listed n f ++ (f n ∷ [])) (omega (arith, length-append (listed n f) (f n ∷ []), length-listed n f)))

  -- What holds of each f k holds of all.
  pub All-listed : (P : A → Type 0) (n : ℕ) (f : ℕ → A) → ((k : ℕ) → k < n → P (f k)) → All P (listed n f)
  unfolding listed
  All-listed P zero f h = tt
  All-listed P (suc n) f h = All-snoc P (listed n f) (All-listed P n f (λ k l. h k (omega arith))) (h n (omega arith))

  -- What holds of the element at each place of a list holds of all.
  pub All-at : (P : A → Type 0) (l : List A) (d : A) → ((k : ℕ) → k < length l → P (get_or l k d)) → All P l
  All-at P [] d h = tt
  All-at P (x ∷ l) d h = (h 0 (omega arith), All-at P l d (λ k b. h (suc k) (omega arith)))

  -- What holds of all holds of the element at each place.
  pub All-lookup : (P : A → Type 0) (l : List A) (d : A) → All P l → (k : ℕ) → k < length l → P (get_or l k d)
  All-lookup P [] d h k b = absurd (not-suc-le-zero b)
  All-lookup P (x ∷ l) d h zero b = h.0
  All-lookup P (x ∷ l) d h (suc k) b = All-lookup P l d h.1 k (le_of_suc-le-suc b)

  -- A list is listed by its own elements.
  pub listed-≡ : (n : ℕ) (f : ℕ → A) (l : List A) (d : A) → length l ≡ n → ((k : ℕ) → k < n → f k ≡ get_or l k d) → listed n f ≡ l
  listed-≡ n f l d e h =
      ext_get_or d (listed n f) l (length-listed n f ∙ sym e)
      (λ k b. let c : k < n = rw length-listed at b in get_d_listed n f d k c ∙ h k c)

  -- Functions that agree below n list the same.
  pub listed-agree : (n : ℕ) (f g : ℕ → A) → ((k : ℕ) → k < n → f k ≡ g k) → listed n f ≡ listed n g
  unfolding listed
  listed-agree zero f g h = refl
  listed-agree (suc n) f g h = rw (listed-agree n f g (λ k l. h k (omega arith)), h n (omega arith))

-- What holds of f at each element holds of each element under f.
pub All-mapped : {A B : Type 0} (P : B → Type 0) (f : A → B) (l : List A) → All (λ a. P (f a)) l → All P (map f l)
All-mapped P f [] h = tt
All-mapped P f (a ∷ l) h = (h.0, All-mapped P f l h.1)
