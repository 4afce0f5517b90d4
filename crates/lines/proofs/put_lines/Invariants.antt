-- The lines of the first k records stand at the start of `text`, and `at` is behind them.
use Rattle.std.proofs.Common.{◌≡◌, ◌*◌, ◌≤◌, ◌++◌, length, drop}
use Rattle.answers.specs.Listing.{lines_of}
use Rattle.lines.specs.Pieces.{longest_line}
use Rattle.lines.proofs.put_lines.Given as goal

abbrev pub invariant-loop-k : goal.invariant-loop-k
invariant-loop-k l = (l.at ≡ length (lines_of l.table l.k)) × (l.text ≡ lines_of l.table l.k ++ drop l.at l.initial.text) × (l.at ≤ longest_line * l.k)
