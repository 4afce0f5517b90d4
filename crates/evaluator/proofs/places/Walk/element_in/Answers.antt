-- `evaluator::places::Walk::element_in` meets its contract, by where the index lies.
use borrow.Author.Rules.{sfits_of}
use mathlib.Core.Path.{◌≡◌, ap, ◌∙◌}
use Prim.Native.Nat.{ℕ, suc, ◌+◌, ◌≤◌, ◌<◌}
use native.Mathlib.Omega.{arith}
use mathlib.Core.Bool.{Bool, true, false}
use mathlib.Core.List.{List}
use lib.IntN.{ℤ, nat_abs, ◌-ℤ◌}
use lib.Signed.{le_z}
use mir.Syntax.{w32}
use mir.Val.{SFits, to_z, of_z}
use mir.Facts.{to_z-of_z}
use Rattle.language.specs.Meaning.{Assignment, element_value, element_at}
use Rattle.table.specs.Records.{x_at, y_at}
use Rattle.table.specs.Parts.{parts_of}
use Rattle.table.specs.declared.Record.{Record}
use Rattle.answers.specs.Sections.{element_of, array_of, behind_array}
use Rattle.operations.specs.declared.values.Value.TheVariants.{Integer, Undefined}
use Rattle.operations.specs.Values.{of_integer}
use Rattle.evaluator.proofs.Declared.{before-array, behind-elements, element_found}
use Rattle.evaluator.proofs.Reading.{x-handed, y-handed}
use Rattle.evaluator.proofs.places.Walk.element_in.Goals as goal

record-in : (bs : List ℕ) (p : ℕ) → behind_array bs p ≤ 5000 → p < 5000
unfolding behind_array
record-in bs p h = omega arith

-- the array's record as it was read, and the place along the array
module _ (α : Assignment) (bs : List ℕ) (p : ℕ) {r : Record} {i : ℤ} (e : r ≡ parts_of bs p) (q : SFits w32 i) where
  tested : {b : Bool} → le_z (to_z w32 (of_z w32 r.x)) (to_z w32 (of_z w32 i)) ≡ b → le_z (x_at bs p) i ≡ b
  tested t = rw (x-handed bs p e, to_z-of_z q) at t

  along : {d : ℕ} → d ≡ nat_abs (to_z w32 (of_z w32 i) -ℤ to_z w32 (of_z w32 r.x)) → d ≡ nat_abs (i -ℤ x_at bs p)
  along h = h ∙ rw (x-handed bs p e, to_z-of_z q)

  before : le_z (to_z w32 (of_z w32 r.x)) (to_z w32 (of_z w32 i)) ≡ false → Undefined ≡ of_integer (element_at α (array_of bs p) i)
  before t = rw (before-array α bs p i (tested t))

  module _ {d n : ℕ} (t : le_z (to_z w32 (of_z w32 r.x)) (to_z w32 (of_z w32 i)) ≡ true) (h : d ≡ nat_abs (to_z w32 (of_z w32 i) -ℤ to_z w32 (of_z w32 r.x)))
      (g : n ≡ nat_abs (to_z w32 (of_z w32 r.y))) where
    count : n ≡ nat_abs (y_at bs p)
    count = g ∙ ap nat_abs (y-handed bs p e)

    behind : n ≤ d → Undefined ≡ of_integer (element_at α (array_of bs p) i)
    behind l = rw (behind-elements α bs p i (tested t) (rw (← count, ← along h) l))

    found : {z : ℤ} → d < n → SFits w32 z → z ≡ element_value α (element_of bs (p + 1 + d)) → Integer (to_z w32 (of_z w32 z)) ≡ of_integer (element_at α (array_of bs p) i)
    found {z} l f v = rw (element_found α bs p i (tested t) (rw (← count, ← along h) l)) (ap Integer (to_z-of_z f ∙ v ∙ ap (λ m. element_value α (element_of bs m)) place))
      where
        place : p + 1 + d ≡ suc p + nat_abs (i -ℤ x_at bs p)
        place = rw (← along h) (omega arith)

    element-in-table : d < n → behind_array bs p ≤ 5000 → p + 1 + d < 5000
    unfolding behind_array
    element-in-table l b = omega (arith, count)

pub record_at-array-requires : goal.record_at-array-requires
record_at-array-requires c = record-in _ _ c.requires

pub overflow_add-p : goal.overflow_add-p
overflow_add-p c = record { fits = omega (arith, record-in _ _ c.requires) }

pub element_value-requires : goal.element_value-requires
element_value-requires c = element-in-table c.args.self.now.assignment.now _ _ c.record_at-array.ensures c.ranges.index c.if-array-index.true c.abs_diff-along.ensures c.unsigned_abs.ensures.value c.if-along-unsigned_abs.true c.requires

pub overflow_add-p-then-along-unsigned_abs : goal.overflow_add-p-then-along-unsigned_abs
overflow_add-p-then-along-unsigned_abs c = record { fits = omega (arith, element-in-table c.args.self.now.assignment.now _ _ c.record_at-array.ensures c.ranges.index c.if-array-index.true c.abs_diff-along.ensures c.unsigned_abs.ensures.value c.if-along-unsigned_abs.true c.requires) }

pub returns-then-along-unsigned_abs : goal.returns-then-along-unsigned_abs
returns-then-along-unsigned_abs c = found c.args.self.now.assignment.now _ _ c.record_at-array.ensures c.ranges.index c.if-array-index.true c.abs_diff-along.ensures c.unsigned_abs.ensures.value c.if-along-unsigned_abs.true (sfits_of c.element_value.type_inv) c.element_value.ensures

pub returns-else-along-unsigned_abs : goal.returns-else-along-unsigned_abs
returns-else-along-unsigned_abs c = behind c.args.self.now.assignment.now _ _ c.record_at-array.ensures c.ranges.index c.if-array-index.true c.abs_diff-along.ensures c.unsigned_abs.ensures.value c.if-along-unsigned_abs.false

pub returns-else-array-index : goal.returns-else-array-index
returns-else-array-index c = before c.args.self.now.assignment.now _ _ c.record_at-array.ensures c.ranges.index c.if-array-index.false
