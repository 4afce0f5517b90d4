-- `bounds::domain` meets its contract.
use native.Mathlib.Omega.{arith}
use mathlib.Core.Path.{◌∙◌}
use Rattle.answers.specs.Sections.{variable_count, variables_at}
use Rattle.intervals.proofs.Spans.{to-cong}
use Rattle.layout.proofs.Tables.{laid-in}
use Rattle.bounds.proofs.Declared.{x-field, y-field, domain_of, no-domain}
use Rattle.bounds.proofs.domain.Goals as goal

pub returns-then-v-variable_count : goal.returns-then-v-variable_count
returns-then-v-variable_count c = no-domain c.args.table.now.bytes.now c.args.v (omega (arith, c.variable_count.ensures, c.if-v-variable_count.true))

pub record_at-variable-requires : goal.record_at-variable-requires
unfolding variable_count variables_at
record_at-variable-requires c = let l = laid-in c.args.table.now in omega (arith, l, l.order, c.variable_count.ensures, c.if-v-variable_count.false)

pub returns : goal.returns
unfolding variables_at
returns c = let bs = c.args.table.now.bytes.now in
    let e = c.record_at-variable.ensures in
    to-cong (x-field bs _ e) (y-field bs _ e) ∙ domain_of bs c.args.v (omega (arith, c.variable_count.ensures, c.if-v-variable_count.false)) (omega arith)
