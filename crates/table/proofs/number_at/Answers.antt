-- `table::number_at` meets its contract: the machine's four bytes are the word, and its sign bit is `signed`'s.
use mathlib.Core.Path.{◌≡◌, ap, ◌∙◌}
use Prim.Native.Nat.{ℕ, suc, ◌+◌, ◌*◌, ◌-◌}
use native.Mathlib.Omega.{arith}
use mathlib.Core.Bool.{cond}
use lib.Dec.{ltb}
use lib.IntN.{pos, negsuc}
use mir.Syntax.{w32}
use mir.Val.{to_z}
use mir.Facts.{to_z-of_z}
use borrow.Author.Rules.{sfits_of}
use Rattle.table.specs.Records.{signed, word_at, byte_at}
use Rattle.table.proofs.number_at.Goals as goal

word-by_powers : (a b c d : ℕ) → a + b * 256 + c * 65_536 + d * 16_777_216 ≡ a + 256 * (b + 256 * (c + 256 * d))
word-by_powers a b c d = omega arith

signed-machine : (w : ℕ) → to_z w32 w ≡ signed w
unfolding signed
signed-machine w = ap (λ n. cond (ltb w 0x8000_0000) (pos w) (negsuc n)) {x = 0x1_0000_0000 - suc w} {y = 0xffff_ffff - w} (omega arith)

pub returns : goal.returns
unfolding word_at byte_at
returns c =
    to_z-of_z {w = w32} (sfits_of c.from_le_bytes.type_inv)
    ∙ c.from_le_bytes.ensures
    ∙ ap (to_z w32) (word-by_powers _ _ _ _)
    ∙ signed-machine (word_at c.args.table.now c.args.i)
