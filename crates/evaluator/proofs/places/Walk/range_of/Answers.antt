-- `evaluator::places::Walk::range_of` meets its contract.
use mathlib.Core.Path.{◌≡◌, sym, ap, ◌∙◌}
use Prim.Native.Nat.{ℕ, ◌≤◌}
use native.Mathlib.Omega.{arith}
use mathlib.Core.List.{List}
use lib.IntN.{pos}
use mir.Syntax.{w32}
use mir.Val.{Fits, to_z, of_z}
use Rattle.language.specs.Syntax.{Slot}
use Rattle.language.specs.Meaning.{count, no_slot}
use Rattle.table.specs.Parts.{parts_of}
use Rattle.table.specs.declared.Record.{Record}
use Rattle.answers.specs.Sections.{slot_of}
use Rattle.evaluator.specs.declared.ranges.Range.{Range}
use Rattle.evaluator.specs.Walks.{range_of}
use Rattle.evaluator.proofs.Declared.{slot-declared, slot-missing}
use Rattle.evaluator.proofs.Reading.{x-handed, y-handed}
use Rattle.evaluator.proofs.places.Walk.range_of.Goals as goal

-- the ends that were read are the slot's
module _ (bs : List ℕ) (p : ℕ) {r : Record} (e : r ≡ parts_of bs p) where
  ends : ◌≡◌ {A = Slot} (record { low = to_z w32 (of_z w32 r.x); high = to_z w32 (of_z w32 r.y) }) (slot_of bs p)
  unfolding slot_of
  ends = rw (x-handed bs p e, y-handed bs p e)

  declared-range : {n : ℕ} {s : Slot} → n ≡ count (record { low = to_z w32 (of_z w32 r.x); high = to_z w32 (of_z w32 r.y) }) → s ≡ slot_of bs p →
      ◌≡◌ {A = Range} (record { low = to_z w32 (of_z w32 r.x); count = n }) (range_of s)
  declared-range {n} {s} h d = rw h (ap range_of (ends ∙ sym d))

few : {n m : ℕ} → n ≡ m → m ≤ 10000 → Fits w32 n
few e h = record { fits = omega arith }

no-range : {s : Slot} → s ≡ no_slot → ◌≡◌ {A = Range} (record { low = pos 1; count = 0 }) (range_of s)
unfolding no_slot count
no-range e = rw e

pub overflow_cast-result : goal.overflow_cast-result
overflow_cast-result c = few (c.values_between.ensures ∙ ap count (ends _ _ c.record_at-slot.ensures)) (c.args.self.now.laid.few_values c.args.s.0 c.if-s-self.true)

pub returns-then-s-self : goal.returns-then-s-self
returns-then-s-self c = declared-range _ _ c.record_at-slot.ensures c.values_between.ensures (slot-declared c.args.self.now.table.now c.args.self.now.places.now c.args.s.0 c.if-s-self.true)

pub returns-else-s-self : goal.returns-else-s-self
returns-else-s-self c = no-range (slot-missing c.args.self.now.table.now c.args.self.now.places.now c.args.s.0 c.if-s-self.false)
