-- `put_lines`: one line more at each turn.
use Rattle.std.proofs.Common.{◌≡◌, ℕ, ◌+◌, ◌≤◌, List, ◌++◌, length, drop, refl, ◌∙◌, arith, add-one, length-append, length-drop}
use Rattle.std.proofs.lemmas.List.{take_at, drop_at, drop-drop}
use Rattle.std.proofs.lemmas.List.Edits.{sets, sets-eq}
use Rattle.answers.specs.Listing.{line_of, lines_of}
use Rattle.lines.proofs.put_lines.Goals as goal

lines_of-more : (table : List ℕ) (k : ℕ) → lines_of table (k + 1) ≡ lines_of table k ++ line_of table k
unfolding lines_of
lines_of-more table k = rw add-one

-- A line put behind those before it.
put_more : (front line text : List ℕ) {at : ℕ} → at ≡ length front → at + length line ≤ length text
    → sets (front ++ drop at text) at line ≡ (front ++ line) ++ drop (at + length line) text
put_more front line text {at} e h =
    sets-eq line (front ++ drop at text) at (simp (length-append, length-drop) (omega arith))
    ∙ rw (take_at front (drop at text) at (omega arith), ← drop-drop (length line) at (front ++ drop at text), drop_at front (drop at text) at (omega arith), drop-drop (length line) at text)

pub loop-k-init : goal.loop-k-init
unfolding lines_of
loop-k-init c = (refl, refl, omega arith)

pub loop-k-preserved : goal.loop-k-preserved
loop-k-preserved c =
    let l = c.loop-k in
    let e = c.put_line-at.ensures in (
      rw (lines_of-more c.args.table.now l.k, length-append) (omega arith),
      rw (e.text_after, l.invariant.1, lines_of-more c.args.table.now l.k, e.value) (put_more _ _ _ l.invariant.0 (omega arith)),
      omega arith,
    )
