-- Two tests that say the same.
use mathlib.Core.Path.{◌≡◌, refl, sym}
use mathlib.Core.Bool.{Bool, true, false}
use Prim.Native.Nat.{ℕ, ◌≤◌}
use borrow.Author.Tests.{leb-true, le-leb}
use lib.Dec.{leb}

-- two tests that hold under the same condition are the same
pub same_test : {P : Type 0} (a b : Bool) → (a ≡ true → P) → (P → b ≡ true) → (b ≡ true → P) → (P → a ≡ true) → a ≡ b
same_test true true f g h k = refl
same_test true false f g h k = sym (g (f refl))
same_test false true f g h k = k (h refl)
same_test false false f g h k = refl

pub leb-same : (a b c d : ℕ) → (a ≤ b → c ≤ d) → (c ≤ d → a ≤ b) → leb a b ≡ leb c d
leb-same a b c d f g =
    same_test (leb a b) (leb c d) (leb-true a b) (λ h. le-leb c d (f h)) (λ e. g (leb-true c d e)) (le-leb a b)
