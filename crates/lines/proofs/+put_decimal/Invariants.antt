-- The recursion of `put_decimal`: the number falls.
use Rattle.lines.proofs.+put_decimal.Given as goal

abbrev pub decreases-put_decimal : goal.decreases-put_decimal
decreases-put_decimal l = l.w
