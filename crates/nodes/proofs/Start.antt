-- The facts before the first node: of the variables, slots and arrays of a table whose declarations are sound.
use mathlib.Core.Path.{◌≡◌, refl, ◌∙◌}
use mathlib.Core.List.{List}
use Prim.Native.Nat.{ℕ, ◌+◌, ◌≤◌, ◌<◌}
use native.Mathlib.Nat.{not-suc-le-zero}
use native.Mathlib.Omega.{arith}
use lib.ListN.{length, get_or, set, replicate, length-set, length-replicate, get_or-replicate}
use lib.Seq.{get_or-set_same, get_or-set_other}
use Rattle.table.specs.Records.{kind_at}
use Rattle.kinds.specs.declared.Sort.TheVariants.{Boolean, Integer}
use Rattle.answers.specs.Sections.{variables_at, variable_count, slot_count, array_records, node_count}
use Rattle.answers.proofs.SoundSections.{few_variables, few_slots, few_arrays}
use Rattle.sections.specs.declared.Places.{Places}
use Rattle.sections.proofs.Bounds.{nodes-section, section-short}
use Rattle.operands.specs.declared.Fact.{Fact}
use Rattle.operands.specs.declared.Known.{Known}
use Rattle.operands.specs.Facts.{closed, known_first}
use Rattle.nodes.specs.Known.{entered, slot_fact, declared_fact, FactsKnown, IsKnown, DeclarationsSound}
use Rattle.nodes.proofs.Entered.{length-entered, entered_at, entered_below, entered-above}

-- nothing known but of any number
unfoldable pub blank : List Fact
blank = set (replicate 5_339 (closed Boolean)) 2 (closed Integer)

pub length-blank : length blank ≡ 5_339
unfolding blank
length-blank = length-set {A = Fact} (replicate 5_339 (closed Boolean)) 2 (closed Integer) ∙ length-replicate {A = Fact} 5_339 (closed Boolean)

module _ (bs : List ℕ) where
  -- then the slots, the variables and the arrays
  abbrev pub slot_facts : List Fact
  slot_facts = entered 3 slot_fact (slot_count bs) blank

  abbrev pub variable_facts : List Fact
  variable_facts = entered 83 (λ v. declared_fact (kind_at bs (1 + v))) (variable_count bs) slot_facts

  abbrev pub start_facts : List Fact
  start_facts = entered 19 (λ a. declared_fact (kind_at bs (get_or (array_records bs) a 0))) (length (array_records bs)) variable_facts

  length_slots : length slot_facts ≡ 5_339
  length_slots = length-entered 3 _ blank _ ∙ length-blank

  length_variables : length variable_facts ≡ 5_339
  length_variables = length-entered 83 _ slot_facts _ ∙ length_slots

  module _ (few-v : variable_count bs ≤ 256) (few-s : slot_count bs ≤ 16) (few-a : length (array_records bs) ≤ 64) where
    -- below the slots nothing is entered
    low : (i : ℕ) → i < 3 → get_or start_facts i (closed Boolean) ≡ get_or blank i (closed Boolean)
    low i h = entered_below 19 _ variable_facts _ i (omega arith) ∙ entered_below 83 _ slot_facts _ i (omega arith) ∙ entered_below 3 _ blank _ i h

    slot_at : (s : ℕ) → s < slot_count bs → get_or start_facts (3 + s) (closed Boolean) ≡ slot_fact s
    slot_at s h =
        entered_below 19 _ variable_facts _ (3 + s) (omega arith) ∙ entered_below 83 _ slot_facts _ (3 + s) (omega arith)
        ∙ entered_at 3 _ blank (slot_count bs) (rw length-blank (omega arith)) s h

    array_at : (a : ℕ) → a < length (array_records bs) → get_or start_facts (19 + a) (closed Boolean) ≡ declared_fact (kind_at bs (get_or (array_records bs) a 0))
    array_at a h = entered_at 19 _ variable_facts (length (array_records bs)) (rw length_variables (omega arith)) a h

    variable-at : (v : ℕ) → v < variable_count bs → get_or start_facts (83 + v) (closed Boolean) ≡ declared_fact (kind_at bs (1 + v))
    variable-at v h =
        entered-above 19 _ variable_facts _ (83 + v) (omega arith) ∙ entered_at 83 _ slot_facts (variable_count bs) (rw length_slots (omega arith)) v h

  module _ {at : Places} (d : DeclarationsSound bs at) where
    pub variables-few : variable_count bs ≤ 256
    variables-few = few_variables bs d.variables

    pub slots-few : slot_count bs ≤ 16
    slots-few = few_slots bs d.slots

    pub arrays-few : length (array_records bs) ≤ 64
    arrays-few = few_arrays bs d.arrays

    start_known : FactsKnown bs 0 start_facts
    unfolding blank variables_at
    start_known =
        record {
          size = length-entered 19 _ variable_facts _ ∙ length_variables;
          few_slots = slots-few;
          few_variables = variables-few;
          few_arrays = arrays-few;
          few_nodes = section-short (node_count bs) (nodes-section bs d.few d.whole);
          within = omega arith;
          at_zero = low variables-few slots-few arrays-few 0 (omega arith) ∙ get_or-set_other {A = Fact} (replicate 5_339 (closed Boolean)) 2 0 (closed Integer) (closed Boolean) (λ e. omega arith) ∙ get_or-replicate {A = Fact} 5_339 0 (closed Boolean) (closed Boolean) (omega arith);
          at_one = low variables-few slots-few arrays-few 1 (omega arith) ∙ get_or-set_other {A = Fact} (replicate 5_339 (closed Boolean)) 2 1 (closed Integer) (closed Boolean) (λ e. omega arith) ∙ get_or-replicate {A = Fact} 5_339 1 (closed Boolean) (closed Boolean) (omega arith);
          at_number = low variables-few slots-few arrays-few 2 (omega arith) ∙ get_or-set_same {A = Fact} (replicate 5_339 (closed Boolean)) 2 (closed Integer) (closed Boolean) (rw (length-replicate {A = Fact} 5_339 (closed Boolean)) (omega arith));
          slots = slot_at variables-few slots-few arrays-few;
          arrays = array_at variables-few slots-few arrays-few;
          variables = variable-at variables-few slots-few arrays-few;
          nodes = λ m h. absurd (not-suc-le-zero h);
        }

    -- what is known once all of them are entered
    pub start_is : {s v a : ℕ} {first : Known} {f g h : List Fact} → s ≡ slot_count bs → v ≡ variable_count bs → a ≡ length (array_records bs)
        → first ≡ known_first s v a → f ≡ entered 3 slot_fact s first.facts → g ≡ entered 83 (λ v. declared_fact (kind_at bs (1 + v))) v f
        → h ≡ entered 19 (λ a. declared_fact (kind_at bs (get_or (array_records bs) a 0))) a g → IsKnown bs 0 (record { ranges = first.ranges; facts = h })
    unfolding blank known_first
    start_is es ev ea ek ef eg eh = rw (eh, eg, ef, ek, es, ev, ea) (record { ranged = refl; facts_known = start_known })
