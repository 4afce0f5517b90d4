-- `bounds::node_ends` meets its contract.
use native.Mathlib.Omega.{arith}
use mathlib.Core.Path.{◌≡◌, ◌∙◌, refl, sym, ap}
use mathlib.Core.List.{List}
use Prim.Native.Nat.{ℕ, ◌+◌}
use lib.IntN.{nat_abs}
use lib.ListN.{length}
use Rattle.language.specs.Syntax.{plus, minus, times, minimum, maximum, quot, rem, Slot}
use Rattle.language.specs.Meaning.{array_at, count, slot_at}
use Rattle.language.specs.Tables.{tree_i}
use Rattle.rules.specs.Bounds.{Interval, only, arith_interval, divide_interval, slot_interval, variable_interval, elements_interval, interval}
use Rattle.table.specs.Records.{x_at, y_at}
use Rattle.table.specs.Kinds.{kind_of}
use Rattle.table.specs.KindNumbers.{number_of}
use Rattle.table.specs.declared.kind.Kind.{Kind}
use Rattle.answers.specs.Sections.{declarations, node_count, nodes_at}
use Rattle.layout.proofs.Tables.{laid-in}
use Rattle.intervals.specs.Spans.{interval_of, opposite, repeated}
use Rattle.bounds.specs.Kept.{trees_before, node_ends}
use Rattle.bounds.proofs.Declared.{kind-field, x-field, x-names, y-names}
use Rattle.bounds.proofs.Nodes.{NoInteger, made, made-is, made-other, made-none}
use Rattle.bounds.proofs.node_ends.Goals.{After-try_from}
use Rattle.bounds.proofs.node_ends.Goals as goal

-- ---- what is known where the kind has been read

module _ (d : After-try_from) where
  abbrev bytes : List ℕ
  bytes = d.args.table.now.bytes.now

  abbrev number : ℕ
  number = length d.args.kept.now

  abbrev record-at : ℕ
  record-at = d.args.table.now.at.nodes + number

  place : record-at ≡ nodes_at bytes + number
  place = ap (λ k. k + number) (laid-in d.args.table.now).nodes

  x-is : d.named-x.result.0 ≡ nat_abs (x_at bytes record-at)
  x-is = x-names bytes record-at d.record_at-node.ensures d.named-x.ensures.x

  a-is : interval_of d.kept_at-a.result ≡ interval (declarations bytes) (tree_i (trees_before bytes number) (nat_abs (x_at bytes record-at)))
  a-is = d.kept_at-a.ensures ∙ d.requires.kept.same _ ∙ ap (λ k. interval (declarations bytes) (tree_i (trees_before bytes number) k)) x-is

  b-is : interval_of d.kept_at-b.result ≡ interval (declarations bytes) (tree_i (trees_before bytes number) (nat_abs (y_at bytes record-at)))
  b-is = d.kept_at-b.ensures ∙ d.requires.kept.same _
      ∙ ap (λ k. interval (declarations bytes) (tree_i (trees_before bytes number) k)) (y-names bytes record-at d.record_at-node.ensures d.named-x.ensures.y)

  by-kind : {read k : Kind} → read ≡ k → number_of read ≡ d.record_at-node.result.kind → made bytes number place k ≡ node_ends bytes number
  by-kind {k = k} e f = made-is bytes number place k (ap number_of (sym e) ∙ f ∙ kind-field bytes record-at d.record_at-node.ensures)

both-cong : {A B C : Type 0} (f : A → B → C) {a b : A} {c d : B} → a ≡ b → c ≡ d → f a c ≡ f b d
both-cong f p q = cc

pub overflow_add-table : goal.overflow_add-table
unfolding node_count
overflow_add-table c = let l = laid-in c.args.table.now in omega (arith, l, l.order, c.requires.inside)

pub record_at-node-requires : goal.record_at-node-requires
unfolding node_count
record_at-node-requires c = let l = laid-in c.args.table.now in omega (arith, l, l.order, c.requires.inside)

pub returns-in-Constant : goal.returns-in-Constant
returns-in-Constant c = let d = (goal.at.returns-in-Constant c).After-try_from in c.into-in-Constant.ensures ∙ c.only.ensures ∙ ap only (x-field (bytes d) (record-at d) d.record_at-node.ensures) ∙ by-kind d c.in-Constant.is c.in-Ok.ensures

pub returns-in-Variable : goal.returns-in-Variable
returns-in-Variable c = let d = (goal.at.returns-in-Variable c).After-try_from in c.into-in-Variable.ensures ∙ c.domain.ensures ∙ ap (variable_interval (declarations (bytes d))) (x-is d) ∙ by-kind d c.in-Variable.is c.in-Ok.ensures

pub returns-in-Slot : goal.returns-in-Slot
returns-in-Slot c = let d = (goal.at.returns-in-Slot c).After-try_from in c.into-in-Slot.ensures ∙ c.values.ensures ∙ ap slot_interval (c.slot.ensures ∙ ap (slot_at (declarations (bytes d))) (x-is d)) ∙ by-kind d c.in-Slot.is c.in-Ok.ensures

pub returns-in-Add : goal.returns-in-Add
returns-in-Add c = let d = (goal.at.returns-in-Add c).After-try_from in c.add.ensures ∙ both-cong (arith_interval plus) (a-is d) (b-is d) ∙ by-kind d c.in-Add.is c.in-Ok.ensures

pub returns-in-Subtract : goal.returns-in-Subtract
returns-in-Subtract c = let d = (goal.at.returns-in-Subtract c).After-try_from in c.sub.ensures ∙ both-cong (arith_interval minus) (a-is d) (b-is d) ∙ by-kind d c.in-Subtract.is c.in-Ok.ensures

pub returns-in-Multiply : goal.returns-in-Multiply
returns-in-Multiply c = let d = (goal.at.returns-in-Multiply c).After-try_from in c.mul.ensures ∙ both-cong (arith_interval times) (a-is d) (b-is d) ∙ by-kind d c.in-Multiply.is c.in-Ok.ensures

pub returns-in-Div : goal.returns-in-Div
returns-in-Div c = let d = (goal.at.returns-in-Div c).After-try_from in c.quotients.ensures _ ∙ both-cong (divide_interval quot) (a-is d) (b-is d) ∙ by-kind d c.in-Div.is c.in-Ok.ensures

pub returns-in-Mod : goal.returns-in-Mod
returns-in-Mod c = let d = (goal.at.returns-in-Mod c).After-try_from in c.remainders.ensures _ ∙ both-cong (divide_interval rem) (a-is d) (b-is d) ∙ by-kind d c.in-Mod.is c.in-Ok.ensures

pub returns-in-Negate : goal.returns-in-Negate
returns-in-Negate c = let d = (goal.at.returns-in-Negate c).After-try_from in c.neg.ensures ∙ ap opposite (a-is d) ∙ by-kind d c.in-Negate.is c.in-Ok.ensures

pub returns-in-Min : goal.returns-in-Min
returns-in-Min c = let d = (goal.at.returns-in-Min c).After-try_from in c.into-in-Min.ensures ∙ c.min.ensures ∙ both-cong (arith_interval minimum) (a-is d) (b-is d) ∙ by-kind d c.in-Min.is c.in-Ok.ensures

pub returns-in-Max : goal.returns-in-Max
returns-in-Max c = let d = (goal.at.returns-in-Max c).After-try_from in c.into-in-Max.ensures ∙ c.max.ensures ∙ both-cong (arith_interval maximum) (a-is d) (b-is d) ∙ by-kind d c.in-Max.is c.in-Ok.ensures

pub returns-in-BoolToInt : goal.returns-in-BoolToInt
returns-in-BoolToInt c = let d = (goal.at.returns-in-BoolToInt c).After-try_from in c.into-in-BoolToInt.ensures ∙ by-kind d c.in-BoolToInt.is c.in-Ok.ensures

pub returns-in-Lookup : goal.returns-in-Lookup
returns-in-Lookup c = let d = (goal.at.returns-in-Lookup c).After-try_from in c.into-in-Lookup.ensures ∙ c.kept_at.ensures ∙ d.requires.hulls.same _ ∙ ap (λ a. elements_interval (declarations (bytes d)) (array_at (declarations (bytes d)) a).elements) (x-is d) ∙ by-kind d c.in-Lookup.is c.in-Ok.ensures

pub returns-in-Sum : goal.returns-in-Sum
returns-in-Sum c = let d = (goal.at.returns-in-Sum c).After-try_from in c.sum.ensures ∙ both-cong (λ (s : Slot) (i : Interval). repeated (count s) i) (c.slot-in-Sum.ensures ∙ ap (slot_at (declarations (bytes d))) (x-is d)) (b-is d) ∙ by-kind d c.in-Sum.is c.in-Ok.ensures

pub returns-in_default-kind : goal.returns-in_default-kind
returns-in_default-kind c = let d = (goal.at.returns-in_default-kind c).After-try_from in
    let o = c.in_default-kind in
    let none : NoInteger _ = record { not-Constant = o.not-Constant; not-Variable = o.not-Variable; not-Slot = o.not-Slot; not-Add = o.not-Add; not-Subtract = o.not-Subtract; not-Multiply = o.not-Multiply; not-Div = o.not-Div; not-Mod = o.not-Mod; not-Negate = o.not-Negate; not-Min = o.not-Min; not-Max = o.not-Max; not-BoolToInt = o.not-BoolToInt; not-Lookup = o.not-Lookup; not-Sum = o.not-Sum } in
    c.into-in_default-kind.ensures ∙ made-other (bytes d) (number d) (place d) _ none ∙ by-kind d refl c.in-Ok.ensures

pub returns-in_default : goal.returns-in_default
returns-in_default c = let d = (goal.at.returns-in_default c).After-try_from in
    c.into.ensures ∙ made-none (bytes d) (number d) (place d) (ap kind_of (sym (kind-field (bytes d) (record-at d) d.record_at-node.ensures)) ∙ c.in_default.ensures)
