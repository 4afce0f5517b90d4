-- One turn of a walk over a slot's values: the slot is declared, its value fits, and afterwards the slots' values are as they were.
use mathlib.Core.Path.{◌≡◌, sym, ap, subst, ◌∙◌}
use Prim.Native.Nat.{ℕ, ◌+◌, ◌^◌, ◌≤◌, ◌<◌}
use native.Mathlib.Omega.{arith}
use native.Mathlib.Numerals.{add-one}
use native.Mathlib.Decide.{dec_lt}
use mathlib.Core.List.{List}
use lib.IntN.{ℤ, pos, negsuc, ◌+ℤ◌, nat_abs}
use lib.ListN.{length, get_or, set}
use lib.Seq.{set-set, set-get_or}
use mir.Syntax.{w32}
use mir.Val.{SFits, to_z, of_z}
use mir.Facts.{to_z-of_z}
use Rattle.numbers.proofs.Magnitudes.{nat_abs-+-≤}
use Rattle.language.specs.Syntax as syntax
use Rattle.language.specs.Readings as readings
use Rattle.language.specs.Readings.{joins}
use Rattle.language.specs.Meaning.{Assignment, no_slot, slot_at, count}
use Rattle.operations.specs.declared.values.Walked.{Walked}
use Rattle.evaluator.specs.declared.ranges.Range.{Range}
use Rattle.operations.specs.declared.sums.Total.{Total}
use Rattle.operations.specs.Values.{limited_to}
use Rattle.operations.specs.Truths.{connected}
use Rattle.operations.specs.Sums.{total_value, plus_to}
use Rattle.evaluator.specs.declared.places.TablePlaces.{TablePlaces}
use Rattle.evaluator.specs.Walks.{declared, Laid, range_of, integer_at, truth_at, sum_at, quantified_at}
use Rattle.evaluator.proofs.Declared.{slot-declared, slot-missing}
use Rattle.evaluator.proofs.Binding.{total_to, total-more, sum-total, joint_to, joint_more, quantified-joint}

-- A magnitude below 2 ^ 31 fits 32 bits.
nat_abs→narrow : (z : ℤ) → nat_abs z < 2 ^ 31 → SFits w32 z
nat_abs→narrow (pos n) h = record { sfits = h }
nat_abs→narrow (negsuc n) h = record { sfits = omega arith }

-- ---- the range

-- A turn over a slot's values.
module _ {bs : List ℕ} {places : TablePlaces} (l : Laid bs places) (s : ℕ) {r : Range} (e : r ≡ range_of (slot_at (declared bs places) s)) {k : ℕ} (h : k < r.count) where
  -- The slot is declared,
  pub slot-named : s < places.slot_count
  unfolding no_slot count
  slot-named = by_number (dec_lt s places.slot_count)
    where
      by_number : Dec (s < places.slot_count) → s < places.slot_count
      by_number (yes i) = i
      by_number (no i) = absurd (omega (arith, ap (λ (r : Range). r.count) (e ∙ ap range_of (slot-missing bs places s (omega arith)))))

  pub slot-in : s < 16
  slot-in = omega (arith, slot-named, l.few_slots)

  pub few-turns : r.count ≤ 10000
  few-turns = subst (λ m. m ≤ 10000) (sym (ap (λ (r : Range). r.count) e ∙ ap count (slot-declared bs places s slot-named))) (l.few_values s slot-named)

  -- the turn's value fits,
  pub value-fits : SFits w32 (r.low +ℤ pos k)
  value-fits = nat_abs→narrow (r.low +ℤ pos k) (omega (arith, nat_abs-+-≤ r.low (pos k), near, few-turns))
    where
      near : nat_abs r.low ≤ 1_000_000_000
      near = subst (λ z. nat_abs z ≤ 1_000_000_000) (sym (ap (λ (r : Range). r.low) e ∙ ap (λ (s : syntax.Slot). s.low) (slot-declared bs places s slot-named))) (l.near_slots s slot-named)

  -- and it is the slot's.
  pub value-is : {v : ℤ} → SFits w32 v → v ≡ r.low +ℤ pos k → to_z w32 (of_z w32 v) ≡ (slot_at (declared bs places) s).low +ℤ pos k
  value-is g i = to_z-of_z g ∙ i ∙ ap (λ (r : Range). r.low +ℤ pos k) e

-- ---- the slots' values

-- What the turn stored is put back.
pub restored : (now : List ℤ) (s : ℕ) (v : ℤ) {left values : List ℤ} → SFits w32 (get_or now s (pos 0)) → now ≡ values → left ≡ set now s v →
    set left s (to_z w32 (of_z w32 (get_or now s (pos 0)))) ≡ values
restored now s v f k e = rw (to_z-of_z f, e, set-set now s v (get_or now s (pos 0)), set-get_or now s (pos 0)) k

-- ---- turns

module _ (ρ : readings.Reading) (bs : List ℕ) (places : TablePlaces) (α : Assignment) (values : List ℤ) (s a : ℕ) where
  pub sum-turn : (k : ℕ) {v : ℤ} {now : List ℤ} {total total' : Total} {m : Walked} → s < length values → total ≡ total_to ρ bs places α values s a k → now ≡ values →
      v ≡ (slot_at (declared bs places) s).low +ℤ pos k → m ≡ integer_at ρ bs places α (set now s v) a → total' ≡ plus_to total m → total' ≡ total_to ρ bs places α values s a (k + 1)
  sum-turn k h p q e g t = t ∙ rw (p, g, q, e, add-one k) (total-more ρ bs places α values s a k h)

  pub sum_done : (k : ℕ) {total : Total} {r : Range} {m : Walked} → total ≡ total_to ρ bs places α values s a k → r ≡ range_of (slot_at (declared bs places) s) → k ≡ r.count →
      m ≡ limited_to total.within (total_value total) → m ≡ sum_at ρ bs places α values s a
  sum_done k p e c g = g ∙ rw (p, c ∙ ap (λ (r : Range). r.count) e) (sum-total ρ bs places α values s a)

  module _ (q : syntax.Quantifier) where
    pub joint_turn : (k : ℕ) {v : ℤ} {now : List ℤ} {joint joint' m : Walked} {c : syntax.Connective} → s < length values → joint ≡ joint_to ρ bs places α values q s a k →
        now ≡ values → v ≡ (slot_at (declared bs places) s).low +ℤ pos k → m ≡ truth_at ρ bs places α (set now s v) a → c ≡ joins q → joint' ≡ connected ρ c joint m →
        joint' ≡ joint_to ρ bs places α values q s a (k + 1)
    joint_turn k h p w e g c t = t ∙ rw (p, g, w, e, c, add-one k) (joint_more ρ bs places α values q s a k h)

    pub joint_done : (k : ℕ) {joint : Walked} {r : Range} → joint ≡ joint_to ρ bs places α values q s a k → r ≡ range_of (slot_at (declared bs places) s) → k ≡ r.count →
        joint ≡ quantified_at ρ bs places α values q s a
    joint_done k p e c = p ∙ rw (c ∙ ap (λ (r : Range). r.count) e) (quantified-joint ρ bs places α values q s a)
