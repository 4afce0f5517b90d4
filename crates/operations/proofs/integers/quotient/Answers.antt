-- `operations::integers::quotient` meets its contract: the magnitudes' quotient, with its sign.
use mathlib.Core.Path.{◌≡◌, refl, ◌∙◌}
use mathlib.Core.Bool.{not, beq, cond}
use Prim.Native.Nat.{◌/◌}
use native.Mathlib.Omega.{arith}
use lib.Dec.{leb-suc-zero}
use lib.IntN.{ℤ, pos, negsuc, neg_ℤ, ◌-ℤ◌, nat_abs}
use lib.Signed.{lt_z}
use mir.Syntax.{w64}
use mir.Val.{to_z, of_z}
use mir.Facts.{to_z-of_z}
use Rattle.std.proofs.lemmas.Int.{ints}
use Rattle.numbers.specs.Whole as whole
use Rattle.numbers.proofs.Division.{nat_abs-positive}
use Rattle.operations.proofs.integers.quotient.Goals as goal

-- The sign that is set is that of the quotient cut toward zero.
signed_quotient : (x y : ℤ) →
    let m = nat_abs x / nat_abs y in cond (not (beq (lt_z x (pos 0)) (lt_z y (pos 0)))) (neg_ℤ (pos m)) (pos m) ≡ whole.quotient x y
unfolding whole.quotient
signed_quotient (pos a) (pos b) = rw (leb-suc-zero a, leb-suc-zero b)
signed_quotient (pos a) (negsuc b) = rw (leb-suc-zero a)
signed_quotient (negsuc a) (pos b) = rw (leb-suc-zero b)
signed_quotient (negsuc a) (negsuc b) = refl

pub nonzero_div-unsigned_abs : goal.nonzero_div-unsigned_abs
nonzero_div-unsigned_abs c = rw (c.unsigned_abs-2.ensures.value, to_z-of_z c.ranges.y) (nat_abs-positive c.args.y (rw c.requires tt))

pub returns-then-negative : goal.returns-then-negative
returns-then-negative c =
    let s = c.args in
    let negative = rw (to_z-of_z c.ranges.x, to_z-of_z c.ranges.y) at c.if-negative.true in
    let e : to_z w64 (of_z w64 (pos 0 -ℤ to_z w64 (of_z w64 c.from-q.result))) ≡ neg_ℤ c.from-q.result = omega (arith, ints) in
    e
    ∙ rw (c.from-q.ensures, c.unsigned_abs.ensures.value, c.unsigned_abs-2.ensures.value, to_z-of_z c.ranges.x, to_z-of_z c.ranges.y)
    (rw negative at (signed_quotient s.x s.y))

pub returns-else-negative : goal.returns-else-negative
returns-else-negative c =
    let s = c.args in
    let negative = rw (to_z-of_z c.ranges.x, to_z-of_z c.ranges.y) at c.if-negative.false in
    let e : to_z w64 (of_z w64 c.from-q.result) ≡ c.from-q.result = omega (arith, ints) in
    e
    ∙ rw (c.from-q.ensures, c.unsigned_abs.ensures.value, c.unsigned_abs-2.ensures.value, to_z-of_z c.ranges.x, to_z-of_z c.ranges.y)
    (rw negative at (signed_quotient s.x s.y))
