-- `evaluator::places::Walk::element_value` meets its contract.
use borrow.Author.Rules.{sfits_of}
use mathlib.Core.Path.{◌≡◌, ap, ◌∙◌}
use Prim.Native.Nat.{ℕ}
use borrow.Author.Tests.{eq-eqb, ne_eqb}
use mathlib.Core.List.{List}
use lib.IntN.{ℤ, nat_abs}
use mir.Syntax.{w32}
use mir.Facts.{to_z-of_z}
use Rattle.language.specs.Meaning.{Assignment, value_of, element_value}
use Rattle.table.specs.Records.{kind_at, x_at}
use Rattle.answers.specs.Sections.{element_of}
use Rattle.evaluator.proofs.Reading.{kind-is, x-handed}
use Rattle.evaluator.proofs.places.Walk.element_value.Goals as goal

module _ (α : Assignment) (bs : List ℕ) (k : ℕ) {kind : ℕ} (h : kind ≡ kind_at bs k) where
  fixed-element : {z : ℤ} → kind ≡ 0 → z ≡ x_at bs k → z ≡ element_value α (element_of bs k)
  unfolding element_value element_of
  fixed-element e g = rw (← h, eq-eqb kind 0 e) g

  variable-element : {z : ℤ} → (kind ≡ 0 → ⊥) → z ≡ value_of α (nat_abs (x_at bs k)) → z ≡ element_value α (element_of bs k)
  unfolding element_value element_of
  variable-element e g = rw (← h, ne_eqb kind 0 e) g

pub returns-then-element-eq0 : goal.returns-then-element-eq0
returns-then-element-eq0 c = let r = c.record_at-element.ensures in
    fixed-element c.args.self.now.assignment.now _ _ (kind-is _ _ r) c.if-element-eq0.true (x-handed _ _ r)

pub returns-else-element-eq0 : goal.returns-else-element-eq0
returns-else-element-eq0 c = let r = c.record_at-element.ensures in
    variable-element c.args.self.now.assignment.now _ _ (kind-is _ _ r) c.if-element-eq0.false
    (to_z-of_z {w = w32} (sfits_of c.variable.type_inv) ∙ c.variable.ensures ∙ ap (value_of c.args.self.now.assignment.now) (c.unsigned_abs.ensures.value ∙ ap nat_abs (x-handed _ _ r)))
