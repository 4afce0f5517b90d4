-- `preparation::lay_out` meets its contract.
use borrow.Author.Rules.{rules}
use native.Mathlib.Omega.{arith}
use Rattle.answers.specs.Sections.{slot_count, node_count}
use Rattle.layout.proofs.Order.{laid}
use Rattle.preparation.proofs.lay_out.Goals as goal

pub overflow_sub-result : goal.overflow_sub-result
overflow_sub-result c = let l = laid c.args.s.now c.requires.passed c.requires.at_value in omega (arith, l, l.order)

pub overflow_sub-result-2 : goal.overflow_sub-result-2
overflow_sub-result-2 c = let l = laid c.args.s.now c.requires.passed c.requires.at_value in omega (arith, l, l.order)

pub returns : goal.returns
unfolding slot_count node_count
returns c = let l = laid c.args.s.now c.requires.passed c.requires.at_value in
    record { wide = search rules; arrays = λ a h. c.array_records.ensures.held a; slots = l.slots; slot_total = omega (arith, l); array_count = l.tally; nodes = l.nodes; node_total = omega (arith, l) }
