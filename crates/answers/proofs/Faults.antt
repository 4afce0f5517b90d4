-- Laws of faults: of a test, of one fault behind another, and the first fault of a section, which is what a loop that stops at the first
-- faulty record has found.
use mathlib.Core.Path.{◌≡◌, refl, sym, ◌∙◌, ap}
use Prim.Native.Nat.{ℕ, zero, suc, ◌+◌, ◌≤◌, ◌<◌}
use native.Mathlib.Nat.{not-suc-le-zero}
use native.Mathlib.Omega.{arith}
use native.Mathlib.Decide.{dec_lt, le_ind}
use native.Mathlib.Numerals.{add-one}
use mathlib.Core.Bool.{Bool, true, false, not, cond}
use mathlib.Core.Option.{Option, none, some, map, some-ne-none, or_else}
use lib.Dec.{T}
use Rattle.numbers.proofs.Tests.{T→≡true}
use Rattle.answers.specs.Check.{Refusal, refuse, unless, first_fault}

-- ---- one after the other

module _ {A : Type 0} where
  -- Behind no fault the next one is found,
  pub or_else-none : {a b : Option A} → a ≡ none → or_else a b ≡ b
  unfolding or_else
  or_else-none p = rw p

  -- and a fault hides those behind it.
  pub or_else-some : {a : Option A} (b : Option A) {x : A} → a ≡ some x → or_else a b ≡ some x
  unfolding or_else
  or_else-some b p = rw p

  -- Where neither of two has a fault, none is found,
  pub neither : {a b : Option A} → a ≡ none → b ≡ none → or_else a b ≡ none
  neither p q = or_else-none p ∙ q

  -- and only there.
  pub none-or_else : (a b : Option A) → or_else a b ≡ none → (a ≡ none) × (b ≡ none)
  unfolding or_else
  none-or_else none b h = (refl, h)
  none-or_else (some x) b h = absurd (some-ne-none x h)

  -- A fault with none behind it.
  pub or_else-none-right : (a : Option A) → or_else a none ≡ a
  unfolding or_else
  or_else-none-right none = refl
  or_else-none-right (some x) = refl

-- What has nothing to be placed has no fault.
pub unmapped : {A B : Type 0} (f : A → B) (o : Option A) → map f o ≡ none → o ≡ none
unmapped f none e = refl
unmapped f (some n) e = absurd (some-ne-none (f n) e)

-- ---- a test

-- A passed test has no fault,
pub unless-true : (n : ℕ) {b : Bool} → b ≡ true → unless n b ≡ none
unfolding unless
unless-true n p = rw p

pub unless-none : (n : ℕ) (b : Bool) → T b → unless n b ≡ none
unless-none n b t = unless-true n (T→≡true b t)

-- a failed one has the fault,
pub unless-false : (n : ℕ) {b : Bool} → b ≡ false → unless n b ≡ some n
unfolding unless
unless-false n p = rw p

-- and a test without a fault has passed.
pub none-unless : (n : ℕ) (b : Bool) → unless n b ≡ none → T b
unfolding unless
none-unless n true h = tt
none-unless n false h = absurd (some-ne-none n h)

-- Where a choice between no fault and one gives none, the test has passed,
pub none-cond : (b : Bool) (r : Refusal) → cond b none (some r) ≡ none → T b
none-cond true r h = tt
none-cond false r h = absurd (some-ne-none r h)

-- or, the other way round, has not.
pub none-cond-not : (b : Bool) (r : Refusal) → cond b (some r) none ≡ none → T (not b)
none-cond-not true r h = absurd (some-ne-none r h)
none-cond-not false r h = tt

-- Where a choice between a fault and another gives none, the first is none.
pub none-cond-fault : (b : Bool) (o : Option Refusal) (r : Refusal) → cond b o (some r) ≡ none → o ≡ none
none-cond-fault true o r h = h
none-cond-fault false o r h = absurd (some-ne-none r h)

-- ---- a section

module _ (own : ℕ → Option ℕ) (p : ℕ) where
  -- Where nothing has a fault of its own, there is no first fault,
  pub first_fault-none : (k : ℕ) → ((i : ℕ) → i < k → own i ≡ none) → first_fault own p k ≡ none
  unfolding first_fault
  first_fault-none zero h = refl
  first_fault-none (suc k) h = neither (first_fault-none k (λ i l. h i (omega arith))) (ap (map _) (h k (omega arith)))

  -- and only there.
  pub none-first_fault : (k : ℕ) → first_fault own p k ≡ none → (i : ℕ) → i < k → own i ≡ none
  unfolding first_fault
  none-first_fault zero h i l = absurd (not-suc-le-zero l)
  none-first_fault (suc k) h i l =
      let parts = none-or_else (first_fault own p k) _ h in
      go (none-first_fault k parts.0 i) parts.1 (dec_lt i k)
    where
      go : (i < k → own i ≡ none) → map {B = Refusal} (λ n. record { number = n; at = p + k }) (own k) ≡ none → Dec (i < k) → own i ≡ none
      go before last (yes b) = before b
      go before last (no b) = let e : i ≡ k = omega arith in rw e (unmapped _ (own k) last)

  -- Of nothing there is none,
  pub first-zero : first_fault own p 0 ≡ none
  unfolding first_fault
  first-zero = refl

  -- and one thing more without a fault adds none.
  pub first_more : (i : ℕ) → first_fault own p i ≡ none → own i ≡ none → first_fault own p (i + 1) ≡ none
  unfolding first_fault or_else
  first_more i e f = rw (add-one, e, f)

  first-suc : (i : ℕ) {r : Refusal} → first_fault own p i ≡ some r → first_fault own p (suc i) ≡ some r
  unfolding first_fault or_else
  first-suc i e = rw e

  first-stays : {i : ℕ} {r : Refusal} → first_fault own p i ≡ some r → (k : ℕ) → i ≤ k → first_fault own p k ≡ some r
  first-stays {i} {r} e k h = le_ind {n = i} (λ m. first_fault own p m ≡ some r) e (λ m _ f. first-suc m f) k h

  first-here : (i : ℕ) {n : ℕ} → first_fault own p i ≡ none → own i ≡ some n → first_fault own p (suc i) ≡ refuse n (p + i)
  unfolding first_fault or_else
  first-here i e f = rw (e, f)

  -- The first faulty thing decides.
  pub first-at : (i : ℕ) {n k : ℕ} → first_fault own p i ≡ none → own i ≡ some n → i < k → first_fault own p k ≡ refuse n (p + i)
  first-at i {k = k} e f h = first-stays (first-here i e f) k h

  -- All were passed.
  pub first_done : {i k : ℕ} → first_fault own p i ≡ none → i ≡ k → none ≡ first_fault own p k
  first_done e f = sym (rw f at e)

  -- A refusal made of the first fault's number is the section's.
  pub first-refusal : (i k : ℕ) {r : Option Refusal} → first_fault own p i ≡ none → i < k
      → r ≡ map (λ n. record { number = n; at = p + i }) (own i) → (r ≡ none → ⊥) → r ≡ first_fault own p k
  first-refusal i k {r} e h q some-r = go (own i) refl
    where
      go : (o : Option ℕ) → own i ≡ o → r ≡ first_fault own p k
      go none f = absurd (some-r (q ∙ ap (map {B = Refusal} (λ n. record { number = n; at = p + i })) f))
      go (some n) f = q ∙ ap (map {B = Refusal} (λ n. record { number = n; at = p + i })) f ∙ sym (first-at i e f h)
