-- `nodes::enter_slots` meets its contract: the facts of the slots passed stand at their places.
use mathlib.Core.Path.{◌≡◌, ap}
use Prim.Native.Nat.{ℕ, ◌*◌, ◌%◌, ◌^◌, ◌<◌}
use native.Mathlib.Omega.{arith}
use lib.Pow.{pow_mono}
use Rattle.kinds.specs.declared.Sort.TheVariants.{Integer}
use Rattle.nodes.proofs.Entered.{entered-none, entered-more}
use Rattle.nodes.proofs.enter_slots.Goals as goal

slot_bit : (s : ℕ) → s < 16 → 1 * 2 ^ s % 65_536 ≡ 2 ^ s
slot_bit s h = omega (arith, pow_mono {i = s} {j = 15} (omega arith))

pub loop-s-init : goal.loop-s-init
loop-s-init c = (omega arith, entered-none 3 _ _)

pub loop-s-preserved : goal.loop-s-preserved
loop-s-preserved c = (omega arith, entered-more 3 _ _ c.loop-s.s c.loop-s.invariant.1 (ap (λ (n : ℕ). record { free = n; yields = Integer }) (slot_bit c.loop-s.s (omega arith))))

pub returns : goal.returns
returns c = let e : c.loop-s.s ≡ c.args.count = omega arith in rw (← e) c.loop-s.invariant.1
