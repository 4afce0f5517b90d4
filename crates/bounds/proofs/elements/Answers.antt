-- `bounds::elements` meets its contract.
use native.Mathlib.Omega.{arith}
use mathlib.Core.Path.{◌∙◌, sym, ap}
use mathlib.Core.List.{List}
use Prim.Native.Nat.{ℕ, suc, ◌+◌, ◌-◌}
use Rattle.rules.specs.Bounds.{Interval, element_interval, elements_interval}
use Rattle.table.specs.Records.{record_count, record_size}
use Rattle.answers.specs.Sections.{listed, declarations, element_of, array_of, behind_array}
use Rattle.bounds.proofs.Declared.{y-names, hull-cong, elements-none, elements-one, elements-more}
use Rattle.bounds.proofs.elements.Goals as goal

-- the hull of the first n elements of the array of record p
abbrev hull-of : List ℕ → ℕ → ℕ → Interval
hull-of bs p n = elements_interval (declarations bs) (listed n (λ j. element_of bs (suc p + j)))

pub record_at-requires : goal.record_at-requires
unfolding behind_array
record_at-requires c = omega (arith, c.requires)

pub returns-then-count-eq0 : goal.returns-then-count-eq0
unfolding array_of
returns-then-count-eq0 c = let bs = c.args.table.now.bytes.now in
    elements-none (declarations bs) (λ j. element_of bs (suc c.args.p + j)) ∙ ap (hull-of bs c.args.p) (sym c.if-count-eq0.true ∙ y-names bs _ c.record_at.ensures c.named-count.ensures.y)

pub overflow_add-p : goal.overflow_add-p
unfolding behind_array record_count record_size
overflow_add-p c = omega (arith, c.requires, c.well_formed)

pub element-all-requires : goal.element-all-requires
unfolding behind_array
element-all-requires c = omega (arith, c.requires, c.if-count-eq0.false, y-names c.args.table.now.bytes.now _ c.record_at.ensures c.named-count.ensures.y)

pub overflow_step-q : goal.overflow_step-q
unfolding behind_array record_count record_size
overflow_step-q c = omega (arith, c.requires, c.well_formed)

pub overflow_add-q-end : goal.overflow_add-q-end
unfolding behind_array record_count record_size
overflow_add-q-end c = omega (arith, c.requires, c.well_formed)

pub overflow_add-q-end-2 : goal.overflow_add-q-end-2
unfolding behind_array record_count record_size
overflow_add-q-end-2 c = omega (arith, c.requires, c.well_formed, y-names c.args.table.now.bytes.now _ c.record_at.ensures c.named-count.ensures.y)

pub loop-q-init : goal.loop-q-init
loop-q-init c = let bs = c.args.table.now.bytes.now in
    c.element-all.ensures ∙ ap (λ q. element_interval (declarations bs) (element_of bs q)) (omega arith)
    ∙ elements-one (declarations bs) (λ j. element_of bs (suc c.args.p + j)) ∙ ap (hull-of bs c.args.p) (omega arith)

pub element-requires : goal.element-requires
unfolding behind_array
element-requires c = omega (arith, c.requires, c.loop-q-test.true, y-names c.args.table.now.bytes.now _ c.record_at.ensures c.named-count.ensures.y)

pub loop-q-preserved : goal.loop-q-preserved
loop-q-preserved c = let bs = c.args.table.now.bytes.now in
    c.hull-all.ensures
    ∙ hull-cong c.loop-q.invariant (c.element.ensures ∙ ap (λ q. element_interval (declarations bs) (element_of bs q)) (omega (arith, c.loop-q.auto.q)))
    ∙ elements-more (declarations bs) (λ j. element_of bs (suc c.args.p + j)) (c.loop-q.q - (c.args.p + 1)) (omega (arith, c.loop-q.auto.q))
    ∙ ap (hull-of bs c.args.p) (omega (arith, c.loop-q.auto.q))

pub returns : goal.returns
unfolding array_of
returns c = let bs = c.args.table.now.bytes.now in
    c.loop-q.invariant
    ∙ ap (hull-of bs c.args.p) (omega (arith, c.loop-q.auto, c.loop-q-test.false, c.if-count-eq0.false, y-names bs _ c.record_at.ensures c.named-count.ensures.y))
