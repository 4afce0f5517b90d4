-- The tests of the code on a constraint are those of document 01.
use mathlib.Core.Path.{◌≡◌, refl, sym, ap, ◌∙◌}
use mathlib.Core.Bool.{Bool, true, false, ◌&&◌}
use mathlib.Core.List.{List}
use mathlib.Core.Option.{none, some, or_else}
use Prim.Native.Nat.{ℕ, zero, suc, ◌-◌, ◌%◌, ◌^◌, ◌<◌}
use native.Mathlib.Omega.{arith}
use borrow.Author.Tests.{eq-eqb, ne_eqb}
use lib.Bits.{bit_and, and_mask}
use lib.Dec.{eqb}
use lib.IntN.{ℤ, nat_abs}
use Rattle.std.specs.Prelude.{Ok, Err}
use Rattle.language.specs.Syntax.{boolean}
use Rattle.language.specs.Tables.{tree_at, free_in}
use Rattle.table.specs.Records.{kind_at, aux_at, x_at, y_at}
use Rattle.table.specs.Kinds.{node_number}
use Rattle.table.specs.Parts.{parts_of}
use Rattle.table.specs.declared.Record.{Record}
use Rattle.kinds.specs.declared.Operand.TheVariants.{BooleanNode}
use Rattle.kinds.specs.Entries.{operand_of}
use Rattle.answers.specs.Sections.{slot_count, node_count, node_trees}
use Rattle.answers.specs.Check.{unless, is_zero, names, same_sort, node_sort, field_allowed, field_names, field_typed, no_free_slot, constraint_fault}
use Rattle.operands.specs.declared.Known.{Known}
use Rattle.operands.specs.declared.Miss.TheVariants.{Beyond, OtherType}
use Rattle.operands.specs.Facts.{ranges_of, IsWithin, looked}
use Rattle.nodes.specs.Known.{has, known_at, ConstraintAt}
use Rattle.nodes.proofs.SlotSets.{clear_more}
use Rattle.nodes.proofs.Operands.{Operand, operand, named_below}
use Rattle.nodes.proofs.NodeStep.{Outcome, good, other, shut, nothing, Found, outcome, found}

-- no slot of the first n is free: none of the first n bits is set
closed-by-bits : (bs : List ℕ) (k m n : ℕ) → ((t : ℕ) → t < n → has t m ≡ free_in t (tree_at (node_trees bs) k)) → eqb (m % 2 ^ n) 0 ≡ no_free_slot bs k n
unfolding no_free_slot
closed-by-bits bs k m zero same = eq-eqb (m % 1) 0 (omega arith)
closed-by-bits bs k m (suc n) same = clear_more m n ∙ rw (closed-by-bits bs k m n (λ t h. same t (omega arith)), same n (omega arith))

module _ {allowed named right plain : Bool} where
  beyond : Outcome allowed named right plain (Err Beyond) → plain ≡ false → named ≡ false
  beyond (shut p a) q = cc
  beyond (nothing p a n) q = n

  other_type : Outcome allowed named right plain (Err OtherType) → (named ≡ true) × (right ≡ false)
  other_type (other a n r) = (n, r)

  whole : {v : ℕ} → Outcome allowed named right plain (Ok v) → (named ≡ true) × (right ≡ true)
  whole (good a n r) = (n, r)

module _ (bs : List ℕ) (p : ℕ) {all : ℕ} {known : Known} (at : ConstraintAt bs p all known) {r : Record} (er : r ≡ parts_of bs p) where
  abbrev z : ℤ
  z = x_at bs p

  pub constraint-not-allowed : (eqb r.kind 0 && eqb r.aux 0 && is_zero r.y) ≡ false → constraint_fault bs p ≡ some 3
  unfolding constraint_fault unless or_else
  constraint-not-allowed e = let f : (eqb (kind_at bs p) 0 && eqb (aux_at bs p) 0 && is_zero (y_at bs p)) ≡ false = rw er at e in rw f

  body : Operand bs (node_count bs) known.facts (node_number boolean) z
  body = operand bs (node_count bs) known.facts at.is_known.facts_known z (node_number boolean)

  pub body_within : IsWithin known BooleanNode r.x
  unfolding operand_of
  body_within = rw (at.is_known.ranged, er) body.place

  module _ (e : (eqb r.kind 0 && eqb r.aux 0 && is_zero r.y) ≡ true) {c : Found} (ec : c ≡ looked known BooleanNode r.x) where
    there : c ≡ looked (known_at bs (node_count bs) known.facts) BooleanNode z
    there = ec ∙ ap (λ q. looked q BooleanNode r.x) at.is_known.ranged ∙ ap (λ (q : Record). looked (known_at bs (node_count bs) known.facts) BooleanNode q.x) er

    tests : Outcome true (names (node_count bs) z) (same_sort (node_sort bs z) boolean) false c
    unfolding operand_of field_allowed field_names field_typed
    tests = rw there (outcome (node_number boolean) body)

    allowed : (eqb (kind_at bs p) 0 && eqb (aux_at bs p) 0 && is_zero (y_at bs p)) ≡ true
    allowed = rw er at e

    pub constraint-names-nothing : c ≡ Err Beyond → constraint_fault bs p ≡ some 4
    unfolding constraint_fault unless or_else
    constraint-names-nothing q = rw (allowed, beyond (rw q at tests) refl)

    pub constraint-wrong-type : c ≡ Err OtherType → constraint_fault bs p ≡ some 5
    unfolding constraint_fault unless or_else
    constraint-wrong-type q = let t : _ = other_type (rw q at tests) in rw (allowed, t.0, t.1)

    module _ {v : ℕ} (q : c ≡ Ok v) where
      free : (t : ℕ) → t < 16 → has t v ≡ free_in t (tree_at (node_trees bs) (nat_abs z))
      unfolding operand_of ranges_of
      free t l =
          let f : _ = found (node_number boolean) body (sym there ∙ q) in
          rw (← f.2) ((at.is_known.facts_known.nodes (nat_abs z) (named_below (node_count bs) z f.0)).free t l)

      closed-test : no_free_slot bs (nat_abs z) (slot_count bs) ≡ eqb (bit_and v all) 0
      closed-test =
          sym
          (ap (λ (m : ℕ). eqb m 0) (ap (bit_and v) {y = 2 ^ slot_count bs - 1} (omega (arith, at.every_slot)) ∙ and_mask v (slot_count bs))
          ∙ closed-by-bits bs (nat_abs z) v (slot_count bs) (λ t l. free t (omega (arith, at.is_known.facts_known.few_slots))))

      pub constraint-open : ¬ (bit_and v all ≡ 0) → constraint_fault bs p ≡ some 6
      unfolding constraint_fault unless or_else
      constraint-open n = let t : _ = whole (rw q at tests) in rw (allowed, t.0, t.1, closed-test, ne_eqb (bit_and v all) 0 n)

      pub constraint-sound : bit_and v all ≡ 0 → constraint_fault bs p ≡ none
      unfolding constraint_fault unless or_else
      constraint-sound n = let t : _ = whole (rw q at tests) in rw (allowed, t.0, t.1, closed-test, eq-eqb (bit_and v all) 0 n)
