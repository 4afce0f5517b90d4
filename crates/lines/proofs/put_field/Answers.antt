-- `put_field`: the space, the sign of a number below zero, and the digits.
use Rattle.std.proofs.Common.{◌≡◌, ℕ, ◌+◌, List, ◌∷◌, length, set, sym, ap, ◌∙◌, arith, length-set}
use Rattle.lines.proofs.Digits.{signed_below, signed_above}
use Rattle.lines.proofs.Placed.{Put, put, put_byte, put_two, put-++}
use Rattle.answers.specs.Listing.{decimal}
use Rattle.lines.proofs.put_field.Goals as goal
use Rattle.lines.proofs.put_field.Goals.{then-x-lt0, else-x-lt0}

module _ {t v u digits field : List ℕ} {at start r : ℕ} where
  below : v ≡ set (set t at 32) (at + 1) 45 → start ≡ at + 2 → field ≡ 45 ∷ digits → Put v start digits r u → Put t at (32 ∷ field) r u
  below e f g p = rw g (put-++ (put_two t at 32 45) (rw (e, f) at p))

  above : v ≡ set t at 32 → start ≡ at + 1 → field ≡ digits → Put v start digits r u → Put t at (32 ∷ field) r u
  above e f g p = rw g (put-++ (put_byte t at 32) (rw (e, f) at p))

pub bounds-text-at-then-x-lt0 : goal.bounds-text-at-then-x-lt0
bounds-text-at-then-x-lt0 c = rw length-set (omega (arith, ap length (signed_below c.ranges.x c.if-x-lt0.true)))

pub put_decimal-requires-clause-in_bounds : goal.put_decimal-requires-clause-in_bounds
put_decimal-requires-clause-in_bounds c =
    let long = c.if-x-lt0.auto.text ∙ length-set c.args.text.now c.args.at 32 in
    elim c.if-x-lt0.branch [
      | then-x-lt0 w ↦ rw c.unsigned_abs.ensures.value (omega (arith, ap length (signed_below c.ranges.x w.if-x-lt0.true)))
      | else-x-lt0 w ↦ rw c.unsigned_abs.ensures.value (omega (arith, ap length (signed_above c.ranges.x w.if-x-lt0.false)))
    ]

pub returns : goal.returns
returns c =
    let digits = put (decimal c.unsigned_abs.result) c.put_decimal.ensures.value c.put_decimal.ensures.text_after in
    let abs = sym c.unsigned_abs.ensures.value in
    elim c.if-x-lt0.branch [
      | then-x-lt0 w ↦ let whole = below w.text-is w.start-is (signed_below c.ranges.x w.if-x-lt0.true ∙ ap (λ n. 45 ∷ decimal n) abs) digits in record { value = whole.behind; text_after = whole.written }
      | else-x-lt0 w ↦ let whole = above w.text-is w.start-is (signed_above c.ranges.x w.if-x-lt0.false ∙ ap decimal abs) digits in record { value = whole.behind; text_after = whole.written }
    ]
