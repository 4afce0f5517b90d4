-- `evaluator::lookups::leaf_at` meets its contract, by the kind.
use native.Mathlib.Omega.{arith}
use borrow.Author.Rules.{sfits_of}
use mathlib.Core.Path.{refl, ap, ◌∙◌}
use Rattle.std.proofs.Common.{Some}
use Rattle.table.specs.Records.{record_size, record_count}
use Rattle.evaluator.proofs.Decoding.{leaf-arm, leaf-none, leaf-other}
use Rattle.evaluator.proofs.Reading.{kind-is, x-is, x-fits}
use Rattle.evaluator.proofs.Stepping.{of_leaf}
use Rattle.evaluator.proofs.lookups.leaf_at.Goals as goal

pub record_at-row-requires : goal.record_at-row-requires
unfolding record_size record_count
record_at-row-requires c = omega arith

pub returns-in_default : goal.returns-in_default
returns-in_default c = leaf-none _ _ _ _ (kind-is _ _ c.record_at-row.ensures) c.in_default.ensures

pub returns-in-Constant : goal.returns-in-Constant
returns-in-Constant c = let r = c.record_at-row.ensures in
    ap Some (of_leaf (x-fits _ _ r) refl c.limited.ensures refl) ∙ leaf-arm _ _ _ _ c.in-Ok.ensures c.in-Constant.is (kind-is _ _ r) (x-is _ _ r) c.named-named.ensures.x

pub returns-in-Variable : goal.returns-in-Variable
returns-in-Variable c = let r = c.record_at-row.ensures in
    ap Some (of_leaf (sfits_of c.variable.type_inv) c.variable.ensures c.limited-in-Variable.ensures refl) ∙ leaf-arm _ _ _ _ c.in-Ok.ensures c.in-Variable.is (kind-is _ _ r) (x-is _ _ r) c.named-named.ensures.x

pub returns-in-Slot : goal.returns-in-Slot
returns-in-Slot c = let r = c.record_at-row.ensures in
    ap Some (of_leaf (sfits_of c.slot.type_inv) c.slot.ensures c.limited-in-Slot.ensures refl) ∙ leaf-arm _ _ _ _ c.in-Ok.ensures c.in-Slot.is (kind-is _ _ r) (x-is _ _ r) c.named-named.ensures.x

pub returns-in_default-kind : goal.returns-in_default-kind
returns-in_default-kind c = leaf-other _ _ _ _ c.in-Ok.ensures (kind-is _ _ c.record_at-row.ensures) c.in_default-kind.not-Constant c.in_default-kind.not-Variable c.in_default-kind.not-Slot
