-- `list::read_full` meets its contract: a read that goes on puts its bytes behind those that were read before.
use Rattle.std.proofs.Common.{◌≡◌, ℕ, ◌+◌, ◌-◌, ◌≤◌, List, ◌++◌, rules, length, take, sym, subst, length-take-le}
use Rattle.std.proofs.lemmas.List.{take_at, drop_at}
use Rattle.std.specs.Io.KnownBytes.{Consumes}
use Rattle.std.proofs.KnownBytes.{Consumes-trans}
use borrow.Rule.Slice.PartMut.{put_mid, post_of}
use lib.Seq.{take-add, take-append-le}
use Rattle.list.proofs.read_full.Goals as goal

-- Behind the first `a` bytes stand the first `n` of a part that is put back there.
take-put_mid_more : (a k n : ℕ) (xs ys : List ℕ) → a ≤ length xs → n ≤ length ys → take (a + n) (put_mid a k xs ys) ≡ take a xs ++ take n ys
take-put_mid_more a k n xs ys within fits =
    let rest = ys ++ post_of a k xs in
    let front = length-take-le a xs within in
    rw (take-add a n (put_mid a k xs ys), take_at (take a xs) rest a front, drop_at (take a xs) rest a front, take-append-le n ys (post_of a k xs) fits)

pub loop-done-preserved : goal.loop-done-preserved
loop-done-preserved g c =
    let l = c.loop-done in
    let e = take-put_mid_more l.done (length l.buffer - l.done) c.in_ok-n.n l.buffer c.read.new.buf l.invariant.1 c.in_ok-n.ensures.bound.0 in
    (search rules, search rules, subst (Consumes _ _) (sym e) (Consumes-trans _ _ _ _ _ l.invariant.2 c.in_ok-n.ensures.bytes.0))
