-- Operands that may be undefined: where an operation on them is defined, and that V, which always has a value, agrees with it there. For a
-- quotient V has a corrected divisor, and stays in the interval.
use mathlib.Core.Path.{◌≡◌, refl}
use Prim.Native.Nat.{ℕ, ◌-◌, ◌≤◌}
use native.Mathlib.Omega.{arith}
use native.Mathlib.Nat.{le_trans}
use mathlib.Core.Bool.{Bool, true, false, not, cond, ◌&&◌}
use mathlib.Core.Option.{Option, none, some, map}
use lib.Dec.{T}
use lib.IntN.{ℤ, pos, ◌+ℤ◌, nat_abs, +ℤ_idr}
use Rattle.numbers.specs.Whole.{eq_z, quotient, remainder}
use Rattle.numbers.proofs.Tests.{T→≡true, Tnot→≡false}
use Rattle.numbers.proofs.Division.{eq_z→≡, nat_abs→≥, nat_abs→≤, nat_abs-quotient-≤, nat_abs-remainder-<}
use Rattle.language.specs.Syntax.{Division, quot, rem}
use Rattle.language.specs.Readings.{both, part, division}
use Rattle.language.specs.Meaning.{number}
use Rattle.rules.specs.Bounds.{Interval, magnitude, around, divide_interval}
use Rattle.rules.specs.Soundness.{Within}
use Rattle.rules.specs.TotalRows.{defined}
use Rattle.rules.proofs.Intervals.{nat_abs-≤-magnitude}

-- x is the value v, if v is defined
abbrev pub Agrees : {A : Type 0} → A → Option A → Type 0
Agrees x v = (z : _) → v ≡ some z → x ≡ z

-- ---- one operand

module _ {A B : Type 0} (f : A → B) where
  -- An operation on one operand is defined where the operand is.
  pub defined-map : (v : Option A) → defined (map f v) ≡ defined v
  unfolding defined
  defined-map none = refl
  defined-map (some a) = refl

  -- Agreement goes through it.
  pub agrees-map : {x : A} (v : Option A) → Agrees x v → Agrees (f x) (map f v)
  agrees-map none h z e = cc
  agrees-map (some a) h z e = let h' = h a refl in cc

-- ---- two operands

module _ {A B C : Type 0} (f : A → B → C) where
  -- An operation on two operands is defined where both are.
  pub defined-both : (v : Option A) (w : Option B) → defined v && defined w ≡ defined (both (λ a b. some (f a b)) v w)
  unfolding defined both
  defined-both none w = refl
  defined-both (some a) none = refl
  defined-both (some a) (some b) = refl

  -- Agreement goes through it.
  pub agrees-both : {x : A} {y : B} (v : Option A) (w : Option B) → Agrees x v → Agrees y w → Agrees (f x y) (both (λ a b. some (f a b)) v w)
  unfolding both
  agrees-both none w h k z e = cc
  agrees-both (some a) none h k z e = cc
  agrees-both (some a) (some b) h k z e = let h' = h a refl in let k' = k b refl in cc

-- ---- the corrected divisor

-- "Vb + boolToInt(Vb = 0)"
unfoldable pub corrected : ℤ → ℤ
corrected y = y +ℤ number (eq_z y (pos 0))

-- It is 1 for the divisor 0, and the divisor itself otherwise.
pub corrected-cases : (P : ℤ → Type 0) (y : ℤ) → (T (eq_z y (pos 0)) → P (pos 1)) → (T (not (eq_z y (pos 0))) → P y) → P (corrected y)
unfolding corrected number
corrected-cases P y p q = go (eq_z y (pos 0)) (λ t. eq_z→≡ y (pos 0) t) p q
  where
    go : (b : Bool) → (T b → y ≡ pos 0) → (T b → P (pos 1)) → (T (not b) → P y) → P (y +ℤ number b)
    go true e p q = rw (e tt) (p tt)
    go false e p q = rw (+ℤ_idr y) (q tt)

-- It is never 0.
pub corrected-≢0 : (y : ℤ) → T (not (eq_z (corrected y) (pos 0)))
unfolding eq_z
corrected-≢0 y = corrected-cases (λ z. T (not (eq_z z (pos 0)))) y (λ t. tt) (λ t. t)

-- It is of the divisor's magnitude, or of magnitude 1.
corrected-magnitude : {j : Interval} (y : ℤ) → Within j y → nat_abs (corrected y) - 1 ≤ magnitude j - 1
corrected-magnitude {j} y w = corrected-cases (λ z. nat_abs z - 1 ≤ magnitude j - 1) y (λ t. omega arith) (λ t. omega (arith, nat_abs-≤-magnitude y w))

-- A number of magnitude at most m is in −m..m.
around-within : (z : ℤ) {m : ℕ} → nat_abs z ≤ m → Within (around m) z
unfolding around
around-within z h = record { above = nat_abs→≥ z h; below = nat_abs→≤ z h }

-- Quotient and remainder are in the interval.
pub divide-within : (op : Division) {i j : Interval} {x y : ℤ} → Within i x → Within j y → Within (divide_interval op i j) (part op x (corrected y))
unfolding divide_interval part
divide-within quot {x = x} {y = y} v w = around-within (quotient x (corrected y)) (le_trans (nat_abs-quotient-≤ x (corrected y)) (nat_abs-≤-magnitude x v))
divide-within rem {x = x} {y = y} v w =
    around-within (remainder x (corrected y)) (omega (arith, nat_abs-remainder-< x (corrected y) (corrected-≢0 y), corrected-magnitude y w))

-- ---- "div and mod by 0 .. are undefined"

module _ (op : Division) where
  -- A quotient has a value where the divisor is not 0.
  pub division-some : (a b : ℤ) → T (not (eq_z b (pos 0))) → division op a b ≡ some (part op a b)
  unfolding division
  division-some a b t = rw (Tnot→≡false (eq_z b (pos 0)) t) refl

  -- And only there.
  defined-division : (a b : ℤ) → not (eq_z b (pos 0)) ≡ defined (division op a b)
  unfolding division defined
  defined-division a b = go (eq_z b (pos 0))
    where
      go : (c : Bool) → not c ≡ defined (cond c none (some (part op a b)))
      go true = refl
      go false = refl

  -- (Da ∧ Db) ∧ (Vb ≠ 0): where the quotient is defined.
  pub defined-divide : {y : ℤ} (v w : Option ℤ) → Agrees y w → (defined v && defined w) && not (eq_z y (pos 0)) ≡ defined (both (division op) v w)
  unfolding both defined
  defined-divide none w h = refl
  defined-divide (some a) none h = refl
  defined-divide (some a) (some b) h = rw (h b refl) (defined-division a b)

  -- There the corrected divisor is the divisor, and V is the quotient.
  agrees-division : (x y : ℤ) → Agrees (part op x (corrected y)) (division op x y)
  unfolding division
  agrees-division x y z = corrected-cases (λ w. division op x y ≡ some z → part op x w ≡ z) y
      (λ t. rw (T→≡true (eq_z y (pos 0)) t) (λ e. cc)) (λ t. rw (Tnot→≡false (eq_z y (pos 0)) t) (λ e. cc))

  -- So V agrees with the quotient of operands that may be undefined.
  pub agrees-divide : {x y : ℤ} (v w : Option ℤ) → Agrees x v → Agrees y w → Agrees (part op x (corrected y)) (both (division op) v w)
  unfolding both
  agrees-divide none w h k z e = cc
  agrees-divide (some a) none h k z e = cc
  agrees-divide (some a) (some b) h k z e = rw (h a refl, k b refl) (agrees-division a b z e)
