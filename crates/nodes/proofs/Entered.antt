-- A list after values were put into it from a place on.
use mathlib.Core.Path.{◌≡◌, refl, ◌∙◌}
use mathlib.Core.List.{List}
use mathlib.Core.Logic.{⊎_elim}
use Prim.Native.Nat.{ℕ, zero, suc, ◌+◌, ◌≤◌, ◌<◌}
use native.Mathlib.Nat.{not-suc-le-zero, eq-or-lt_of_le, le_of_suc-le-suc}
use native.Mathlib.Numerals.{add-one}
use native.Mathlib.Omega.{arith}
use lib.ListN.{length, get_or, set, length-set}
use lib.Seq.{get_or-set_same, get_or-set_other}
use Rattle.kinds.specs.declared.Sort.TheVariants.{Boolean}
use Rattle.operands.specs.declared.Fact.{Fact}
use Rattle.operands.specs.Facts.{closed}
use Rattle.nodes.specs.Known.{entered}

module _ (base : ℕ) (f : ℕ → Fact) (facts : List Fact) where
  pub entered-none : facts ≡ entered base f 0 facts
  unfolding entered
  entered-none = refl

  pub entered-more : (n : ℕ) {l : List Fact} {v : Fact} → l ≡ entered base f n facts → v ≡ f n → set l (base + n) v ≡ entered base f (n + 1) facts
  unfolding entered
  entered-more n e g = rw (add-one, e, g)

  pub length-entered : (n : ℕ) → length (entered base f n facts) ≡ length facts
  unfolding entered
  length-entered zero = refl
  length-entered (suc n) = length-set (entered base f n facts) (base + n) (f n) ∙ length-entered n

  -- what was put there
  pub entered_at : (n : ℕ) → base + n ≤ length facts → (i : ℕ) → i < n → get_or (entered base f n facts) (base + i) (closed Boolean) ≡ f i
  unfolding entered
  entered_at zero h i l = absurd (not-suc-le-zero l)
  entered_at (suc n) h i l =
      ⊎_elim
      (λ e. rw e (get_or-set_same (entered base f n facts) (base + n) (f n) (closed Boolean) (rw (length-entered n) (omega arith))))
      (λ k. get_or-set_other (entered base f n facts) (base + n) (base + i) (f n) (closed Boolean) (λ e. omega arith) ∙ entered_at n (omega arith) i k)
      (eq-or-lt_of_le (le_of_suc-le-suc l))

  -- and what stands elsewhere
  pub entered_below : (n i : ℕ) → i < base → get_or (entered base f n facts) i (closed Boolean) ≡ get_or facts i (closed Boolean)
  unfolding entered
  entered_below zero i l = refl
  entered_below (suc n) i l = get_or-set_other (entered base f n facts) (base + n) i (f n) (closed Boolean) (λ e. omega arith) ∙ entered_below n i l

  pub entered-above : (n i : ℕ) → base + n ≤ i → get_or (entered base f n facts) i (closed Boolean) ≡ get_or facts i (closed Boolean)
  unfolding entered
  entered-above zero i l = refl
  entered-above (suc n) i l = get_or-set_other (entered base f n facts) (base + n) i (f n) (closed Boolean) (λ e. omega arith) ∙ entered-above n i (omega arith)
