-- `layout::array_records` meets its contract.
use mathlib.Core.Path.{ap, ◌∙◌}
use Prim.Native.Nat.{◌+◌, ◌<◌}
use native.Mathlib.Omega.{arith}
use lib.IntN.{nat_abs}
use lib.ListN.{length}
use Rattle.answers.specs.Sections.{array_records}
use Rattle.table.specs.declared.Record.{Record}
use Rattle.table.specs.Records.{record_size, record_count}
use Rattle.layout.proofs.Runs.{behind-at}
use Rattle.layout.proofs.Walked.{placed-none, next-within, placed-more, placed-all}
use Rattle.layout.proofs.Order.{laid}
use Rattle.layout.proofs.array_records.Goals.{In-loop-n}
use Rattle.layout.proofs.array_records.Goals as goal

-- an array number below the count, and its record within the table
counted : (c : In-loop-n) → c.loop-n.n < length (array_records c.args.s.now)
counted c = let l = laid _ c.requires.passed c.requires.at_value in omega (arith, l)

next-at : (c : In-loop-n) → c.loop-n.p < record_count c.args.s.now
next-at c = next-within _ c.loop-n.invariant c.requires.passed.whole (counted c)

pub loop-n-init : goal.loop-n-init
loop-n-init c = rw (laid _ c.requires.passed c.requires.at_value).arrays (placed-none _)

pub offset_bounds-records-n : goal.offset_bounds-records-n
offset_bounds-records-n c = omega (arith, counted c, c.requires.passed.few_arrays)

pub bounds-records-n : goal.bounds-records-n
bounds-records-n c = omega (arith, counted c, c.requires.passed.few_arrays)

pub overflow_add-p : goal.overflow_add-p
unfolding record_size record_count
overflow_add-p c = omega (arith, next-at (goal.at.overflow_add-p c).In-loop-n)

pub record_at-requires : goal.record_at-requires
record_at-requires c = next-at c

pub overflow_add-p-in-loop-n : goal.overflow_add-p-in-loop-n
unfolding record_size record_count
overflow_add-p-in-loop-n c = omega (arith, c.named-count.ensures.y_bound, next-at (goal.at.overflow_add-p-in-loop-n c).In-loop-n)

pub loop-n-preserved : goal.loop-n-preserved
loop-n-preserved c = let l = (goal.at.loop-n-preserved c).In-loop-n in
    placed-more _ c.loop-n.invariant c.requires.passed.whole (counted l) (omega (arith, counted l, c.requires.passed.few_arrays)) (ap (λ n. c.loop-n.p + 1 + n) (c.named-count.ensures.y ∙ ap (λ (r : Record). nat_abs r.y) c.record_at.ensures) ∙ behind-at _ _)

pub returns : goal.returns
returns c = let l = laid _ c.requires.passed c.requires.at_value in placed-all _ c.loop-n.invariant (omega (arith, l))
