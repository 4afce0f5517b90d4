-- "Bounds before translation": an operation on numbers of the operands' intervals stays in the node's interval, and a slot may be put to any
-- value of its range.
use Prim.Native.Nat.{ℕ, suc, ◌≤◌, ◌<◌}
use native.Mathlib.Omega.{arith}
use lib.Dec.{T}
use lib.IntN.{ℤ, pos, negsuc, ◌+ℤ◌, ◌*ℤ◌, nat_abs, suc_ℤ-*ℤ, *ℤ_comm, zero-*ℤ}
use lib.Signed.{≤ℤ_refl}
use Rattle.numbers.specs.Whole.{within_limit}
use Rattle.numbers.proofs.Tests.{&&-fst, &&-snd}
use Rattle.numbers.proofs.Order.{≤_trans, +-mono-≤, neg-anti-≤, *-pos-mono-≤, *-negsuc-anti-≤, least-≤ˡ, least-≤ʳ, ≤-greatestˡ, ≤-greatestʳ, least-mono-≤, greatest-mono-≤}
use Rattle.numbers.proofs.Division.{nat_abs-between, within_limit-between}
use Rattle.language.specs.Syntax.{Arithmetic, plus, minus, times, minimum, maximum, IExp, Slot, Declarations}
use Rattle.language.specs.Readings.{arithmetic}
use Rattle.language.specs.Meaning.{Assignment, Setting, put, slot_at, count}
use Rattle.language.proofs.Ranges.{put-cases, low-≤-slot-value, slot-value-≤-high}
use Rattle.rules.specs.Bounds.{Interval, ◌to◌, magnitude, hull, only, products, arith_interval, slot_interval, interval, within_bounds}
use Rattle.rules.specs.Soundness.{Within, Fits, IsSlot}
use Rattle.rules.proofs.Claims.{InBounds}

-- A number of an interval within the limit is within the limit.
pub within-limit : (Γ : Declarations) (e : IExp ⊥) {z : ℤ} → InBounds Γ e → Within (interval Γ e) z → T (within_limit z)
unfolding within_bounds
within-limit Γ e t w =
    let l = within_limit (interval Γ e).low in
    let h = within_limit (interval Γ e).high in
    within_limit-between (&&-fst l h t) (&&-snd l h t) w.above w.below

-- The interval x..x holds x.
pub within-only : (z : ℤ) → Within (only z) z
unfolding only
within-only z = record { above = ≤ℤ_refl z; below = ≤ℤ_refl z }

-- A hull holds what the first interval holds.
pub within-hullˡ : {i : Interval} (j : Interval) {z : ℤ} → Within i z → Within (hull i j) z
unfolding hull
within-hullˡ {i} j w = record { above = ≤_trans (least-≤ˡ i.low j.low) w.above; below = ≤_trans w.below (≤-greatestˡ i.high j.high) }

-- And what the second holds.
pub within-hullʳ : (i : Interval) {j : Interval} {z : ℤ} → Within j z → Within (hull i j) z
unfolding hull
within-hullʳ i {j} w = record { above = ≤_trans (least-≤ʳ i.low j.low) w.above; below = ≤_trans w.below (≤-greatestʳ i.high j.high) }

-- ---- products

-- A product lies between the products of one factor's ends with the other factor.
*-between : {i : Interval} {x : ℤ} → Within i x → (y : ℤ) → Within (hull (only (i.low *ℤ y)) (only (i.high *ℤ y))) (x *ℤ y)
unfolding hull only
*-between {i} w (pos n) = record {
  above = ≤_trans (least-≤ˡ (i.low *ℤ pos n) (i.high *ℤ pos n)) (*-pos-mono-≤ n w.above);
  below = ≤_trans (*-pos-mono-≤ n w.below) (≤-greatestʳ (i.low *ℤ pos n) (i.high *ℤ pos n));
}
*-between {i} w (negsuc n) = record {
  above = ≤_trans (least-≤ʳ (i.low *ℤ negsuc n) (i.high *ℤ negsuc n)) (*-negsuc-anti-≤ n w.below);
  below = ≤_trans (*-negsuc-anti-≤ n w.above) (≤-greatestˡ (i.low *ℤ negsuc n) (i.high *ℤ negsuc n));
}

-- The same with the factors changed.
*-betweenʳ : {j : Interval} {y : ℤ} → Within j y → (x : ℤ) → Within (hull (only (x *ℤ j.low)) (only (x *ℤ j.high))) (x *ℤ y)
*-betweenʳ {j} {y} w x = rw (*ℤ_comm x j.low, *ℤ_comm x j.high, *ℤ_comm x y) (*-between w x)

-- Between two numbers is between the hulls that hold them.
within-hull-of : {i j : Interval} {a b z : ℤ} → Within i a → Within j b → Within (hull (only a) (only b)) z → Within (hull i j) z
unfolding hull only
within-hull-of v w u = record { above = ≤_trans (least-mono-≤ v.above w.above) u.above; below = ≤_trans u.below (greatest-mono-≤ v.below w.below) }

-- "multiply the least and greatest of four products"
products-within : {i j : Interval} {x y : ℤ} → Within i x → Within j y → Within (products i j) (x *ℤ y)
unfolding products
products-within {i} {j} {x} {y} v w = within-hull-of (*-betweenʳ w i.low) (*-betweenʳ w i.high) (*-between v y)

-- ---- arithmetic and magnitudes

-- "add, min, max end by end; subtract and negate the least and greatest value that the operands' ends give"
pub arith-within : (op : Arithmetic) {i j : Interval} {x y : ℤ} → Within i x → Within j y → Within (arith_interval op i j) (arithmetic op x y)
unfolding arith_interval arithmetic
arith-within plus v w = record { above = +-mono-≤ v.above w.above; below = +-mono-≤ v.below w.below }
arith-within minus v w = record { above = +-mono-≤ v.above (neg-anti-≤ w.below); below = +-mono-≤ v.below (neg-anti-≤ w.above) }
arith-within times v w = products-within v w
arith-within minimum v w = record { above = least-mono-≤ v.above w.above; below = least-mono-≤ v.below w.below }
arith-within maximum v w = record { above = greatest-mono-≤ v.above w.above; below = greatest-mono-≤ v.below w.below }

-- No number of an interval passes its magnitude.
pub nat_abs-≤-magnitude : {i : Interval} (x : ℤ) → Within i x → nat_abs x ≤ magnitude i
unfolding magnitude
nat_abs-≤-magnitude {i} x w = nat_abs-between x w.above w.below (omega arith) (omega arith)

-- ---- sums

-- n times both ends
abbrev pub ends : ℕ → Interval → Interval
ends n i = pos n *ℤ i.low to pos n *ℤ i.high

-- "sum the body's ends times the slot's count": the empty sum.
pub sum-within-zero : (i : Interval) → Within (ends 0 i) (pos 0)
sum-within-zero i = rw (zero-*ℤ i.low, zero-*ℤ i.high) (record { above = ≤ℤ_refl (pos 0); below = ≤ℤ_refl (pos 0) })

-- One summand more.
pub sum-within-suc : (n : ℕ) {i : Interval} {x y : ℤ} → Within (ends n i) x → Within i y → Within (ends (suc n) i) (x +ℤ y)
sum-within-suc n {i} v w =
    rw (suc_ℤ-*ℤ (pos n) i.low, suc_ℤ-*ℤ (pos n) i.high) (record { above = +-mono-≤ v.above w.above; below = +-mono-≤ v.below w.below })

-- ---- slots

-- The values of a slot lie in its interval.
slot-value-within : (s : Slot) (k : ℕ) → k < count s → Within (slot_interval s) (s.low +ℤ pos k)
unfolding slot_interval
slot-value-within s k l = record { above = low-≤-slot-value s k; below = ≤_trans (slot-value-≤-high s k l) (≤-greatestʳ s.low s.high) }

-- A setting that fits still fits when a slot is put to a value of its range.
pub put-fits : {Γ : Declarations} {α : Assignment} {σ : Setting} → Fits Γ α σ → (s k : ℕ) → k < count (slot_at Γ s) → Fits Γ α (put σ s ((slot_at Γ s).low +ℤ pos k))
put-fits {Γ} {α} {σ} fits s k l = record {
  variables = fits.variables;
  slots =
      put-cases (λ t z. IsSlot Γ t → Within (slot_interval (slot_at Γ t)) z) σ s ((slot_at Γ s).low +ℤ pos k)
      (λ _. slot-value-within (slot_at Γ s) k l) fits.slots;
}
