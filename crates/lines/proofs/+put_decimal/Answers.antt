-- The recursion of `put_decimal`: the digits before the last, and the last.
use Rattle.std.proofs.Common.{◌+◌, ◌/◌, ◌%◌, length, ap, arith}
use Rattle.answers.specs.Listing.{decimal}
use Rattle.lines.proofs.Digits.{decimal_last, decimal_more, length-more}
use Rattle.lines.proofs.Placed.{put, put_byte, put-++}
use Rattle.lines.proofs.+put_decimal.Goals as goal

pub bounds-text-at : goal.bounds-text-at
bounds-text-at t c = omega (arith, ap length (decimal_last c.args.w c.requires.w_bound c.if-w-lt10.true))

pub put_decimal-last-requires : goal.put_decimal-last-requires
put_decimal-last-requires t c = (omega arith, (omega arith, omega (arith, length-more c.args.w c.requires.w_bound c.if-w-lt10.false)))

pub bounds-text-last : goal.bounds-text-last
bounds-text-last t c = omega (arith, length-more c.args.w c.requires.w_bound c.if-w-lt10.false)

pub overflow_add-result-else-w-lt10 : goal.overflow_add-result-else-w-lt10
overflow_add-result-else-w-lt10 t c = omega (arith, length-more c.args.w c.requires.w_bound c.if-w-lt10.false)

pub returns-then-w-lt10 : goal.returns-then-w-lt10
returns-then-w-lt10 t c =
    let digit = put_byte c.args.text.now c.args.at (48 + c.args.w) in
    rw (decimal_last c.args.w c.requires.w_bound c.if-w-lt10.true) (record { value = digit.behind; text_after = digit.written })

pub returns-else-w-lt10 : goal.returns-else-w-lt10
returns-else-w-lt10 t c =
    let e = c.put_decimal-last.ensures in
    let whole = put-++ (put (decimal (c.args.w / 10)) e.value e.text_after) (put_byte c.put_decimal-last.new.text c.put_decimal-last.result (48 + c.args.w % 10)) in
    rw (decimal_more c.args.w c.requires.w_bound c.if-w-lt10.false) (record { value = whole.behind; text_after = whole.written })
