-- `assignment::check_assignment` meets its contract.
use mir.Syntax.{w32}
use mir.Facts.{to_z-of_z}
use native.Mathlib.Omega.{arith}
use borrow.Author.Rules.{rules}
use Rattle.answers.specs.Sections.{variables_at, variable_count}
use Rattle.layout.proofs.Tables.{laid-in}
use Rattle.assignment.proofs.Domains.{wrong_length, inside-none, inside-more, outside-at, inside-all}
use Rattle.assignment.proofs.check_assignment.Goals as goal

pub returns-then-assignment-variable_count : goal.returns-then-assignment-variable_count
returns-then-assignment-variable_count c =
    wrong_length c.args.table.now.bytes.now c.args.assignment.now (λ e. c.if-assignment-variable_count.true (omega arith))

pub loop-v-init : goal.loop-v-init
loop-v-init c = inside-none c.args.table.now.bytes.now c.args.assignment.now

pub record_at-requires : goal.record_at-requires
unfolding variable_count variables_at
record_at-requires c = let l = laid-in c.args.table.now in omega (arith, l, l.order)

pub overflow_cast-result : goal.overflow_cast-result
unfolding variable_count variables_at
overflow_cast-result c = let l = laid-in c.args.table.now in omega (arith, l, l.order)

pub overflow_add-result : goal.overflow_add-result
unfolding variable_count variables_at
overflow_add-result c = let l = laid-in c.args.table.now in omega (arith, l, l.order)

pub returns-then-not-admits : goal.returns-then-not-admits
unfolding variables_at
returns-then-not-admits c =
    outside-at c.args.table.now.bytes.now c.args.assignment.now c.loop-v.v c.loop-v.invariant (omega arith) (omega arith) (to_z-of_z {w = w32} (search rules))
    (rw c.record_at.ensures at c.admits.ensures) c.if-not-admits.true (omega arith)

pub loop-v-preserved : goal.loop-v-preserved
unfolding variables_at
loop-v-preserved c =
    inside-more c.args.table.now.bytes.now c.args.assignment.now c.loop-v.v c.loop-v.invariant (omega arith) (omega arith) (to_z-of_z {w = w32} (search rules))
    (rw c.record_at.ensures at c.admits.ensures) c.if-not-admits.false

pub returns : goal.returns
returns c = inside-all c.args.table.now.bytes.now c.args.assignment.now c.loop-v.v c.loop-v.invariant (omega arith) (omega arith)
