-- `writing::words::last_word` meets its contract.
use mathlib.Core.Path.{◌≡◌, ◌∙◌}
use Prim.Native.Nat.{◌+◌, ◌%◌}
use native.Mathlib.Omega.{arith}
use Rattle.writing.proofs.Bits.{last-bits}
use Rattle.writing.proofs.words.last_word.Goals as goal

pub returns : goal.returns
returns c = let f = c.args.first in let n = c.args.count in let e : ((f + n) % 0x1_0000_0000 + 0xffff_ffff) % 0x1_0000_0000 ≡ (f + n + 0xffff_ffff) % 0x1_0000_0000 = omega arith in e ∙ last-bits f n (omega arith) c.requires
