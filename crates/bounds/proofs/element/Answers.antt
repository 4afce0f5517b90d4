-- `bounds::element` meets its contract.
use mathlib.Core.Path.{◌∙◌, sym, ap}
use Rattle.answers.specs.Sections.{declarations}
use Rattle.rules.specs.Bounds.{only, variable_interval}
use Rattle.bounds.proofs.Declared.{kind-field, x-field, x-names, constant-element, variable-element}
use Rattle.bounds.proofs.element.Goals as goal

pub returns-then-element-eq0 : goal.returns-then-element-eq0
returns-then-element-eq0 c = let bs = c.args.table.now.bytes.now in
    let e = c.record_at-element.ensures in
    c.only.ensures ∙ ap only (x-field bs _ e) ∙ constant-element bs (declarations bs) c.args.p (sym (kind-field bs _ e) ∙ c.if-element-eq0.true)

pub returns-else-element-eq0 : goal.returns-else-element-eq0
returns-else-element-eq0 c = let bs = c.args.table.now.bytes.now in
    let e = c.record_at-element.ensures in
    c.domain.ensures ∙ ap (variable_interval (declarations bs)) (x-names bs _ e c.named-variable.ensures.x) ∙ variable-element bs (declarations bs) c.args.p (λ z. c.if-element-eq0.false (kind-field bs _ e ∙ z))
