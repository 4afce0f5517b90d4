-- `bounds::elements` meets its contract.
use mathlib.Core.Path.{◌≡◌}
use Prim.Native.Nat.{suc, ◌+◌, ◌-◌}
use Rattle.answers.specs.Sections.{listed, declarations, element_of}
use Rattle.rules.specs.Bounds.{elements_interval}
use Rattle.intervals.specs.Spans.{interval_of}
use Rattle.bounds.proofs.elements.Given as goal

abbrev pub invariant-loop-q : goal.invariant-loop-q
invariant-loop-q l = interval_of l.all ≡ elements_interval (declarations l.table.bytes.now) (listed (l.q - (l.p + 1)) (λ j. element_of l.table.bytes.now (suc l.p + j)))
