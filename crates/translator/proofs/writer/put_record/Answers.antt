-- `translator::writer::put_record` meets its contract.
use mathlib.Core.Path.{ap, ◌∙◌}
use Prim.Native.Nat.{◌+◌}
use lib.Seq.{sets}
use Rattle.translator.proofs.Stores.{record_stores}
use Rattle.table.specs.Records.{record_size, first_letter, second_letter, word_bytes}
use Rattle.table.specs.Marks.{mark_of, letters_of}
use Rattle.translator.specs.Cells.{bytes_of}
use lib.ListN.{set, get_or, length-set}
use native.Mathlib.Omega.{arith}
use Rattle.translator.proofs.writer.put_record.Goals as goal

pub bounds-out-at : goal.bounds-out-at
unfolding record_size
bounds-out-at c = omega arith

pub overflow_add-out : goal.overflow_add-out
unfolding record_size
overflow_add-out c = omega arith

pub bounds-out-at-2 : goal.bounds-out-at-2
unfolding record_size
bounds-out-at-2 c = simp length-set (omega arith)

pub overflow_add-out-2 : goal.overflow_add-out-2
unfolding record_size
overflow_add-out-2 c = omega arith

pub bounds-out-at-3 : goal.bounds-out-at-3
unfolding record_size
bounds-out-at-3 c = simp length-set (omega arith)

pub overflow_add-out-3 : goal.overflow_add-out-3
unfolding record_size
overflow_add-out-3 c = omega arith

pub bounds-out-at-4 : goal.bounds-out-at-4
unfolding record_size
bounds-out-at-4 c = simp length-set (omega arith)

pub overflow_add-at : goal.overflow_add-at
unfolding record_size
overflow_add-at c = omega arith

pub put_word-requires : goal.put_word-requires
unfolding record_size
put_word-requires c = simp length-set (omega arith)

pub overflow_add-at-2 : goal.overflow_add-at-2
unfolding record_size
overflow_add-at-2 c = omega arith

pub put_word-requires-2 : goal.put_word-requires-2
unfolding record_size
put_word-requires-2 c = let k = c.put_word.auto.out in omega (arith, simp length-set at k)

pub shape_of-out : goal.shape_of-out
shape_of-out c = c.put_word-2.auto.out ∙ c.put_word.auto.out ∙ simp length-set

pub returns : goal.returns
unfolding bytes_of letters_of
returns c = let new = c.args.new in
    let out = c.args.out.now in
    let at = c.args.at in
    record_stores out at (first_letter (mark_of new.mark)) (second_letter (mark_of new.mark)) new.kind new.x new.y
    (c.put_word.ensures ∙ ap (λ l. sets (set (set (set (set out at (get_or l 0 0)) (at + 1) (get_or l 1 0)) (at + 2) new.kind) (at + 3) 0) (at + 4) (word_bytes new.x)) c.letters.ensures)
    c.put_word-2.ensures
