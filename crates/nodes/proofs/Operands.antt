-- What the facts say of an operand is what document 01 says of the field.
use mathlib.Core.Path.{◌≡◌, refl, sym, ap, ◌∙◌}
use mathlib.Core.Bool.{Bool, true, false, cond, not, ◌&&◌, ◌||◌}
use mathlib.Core.List.{List}
use Prim.Native.Nat.{ℕ, zero, suc, ◌+◌, ◌<◌}
use native.Mathlib.Omega.{arith}
use borrow.Author.Tests.{ltb-true, le-ltb, ne_eqb}
use native.Mathlib.Nat.{not-suc-le-zero, le_of_suc-le-suc}
use lib.Dec.{eqb}
use lib.IntN.{ℤ, pos, negsuc, nat_abs}
use lib.ListN.{length, get_or}
use Rattle.numbers.specs.Whole.{eq_z}
use Rattle.language.specs.Syntax.{Sort, boolean, integer}
use Rattle.language.specs.Tables.{tree_at, tree_i, tree_b}
use Rattle.table.specs.Kinds.{Field, unused, any_number, truth_value, variable_number, slot_number, array_number, node_number}
use Rattle.kinds.specs.declared.Sort.TheVariants.{Boolean, Integer}
use Rattle.kinds.specs.Entries.{operand_of, sort_of, declared_sort}
use Rattle.answers.specs.Sections.{sort_of_kind, variable_count, slot_count, array_records, node_trees}
use Rattle.answers.specs.Check.{same_sort, is_zero, is_bit, names, variable_sort, array_sort, node_sort, field_allowed, field_names, field_typed}
use Rattle.answers.proofs.KindRows.{tree_sort, FieldBelow, field_free}
use Rattle.answers.proofs.NodeTrees.{free-integer, free-boolean, tree-sort}
use Rattle.operands.specs.declared.Fact.{Fact}
use Rattle.operands.specs.Facts.{closed, range_in, place_in, in_range, ranges_of, same, is_plain}
use Rattle.nodes.specs.Known.{has, FactsKnown, known_at}
use Rattle.nodes.proofs.SlotSets.{has-none, has_one}

-- an operand's test against its limit, its fact, and the type that is wanted
abbrev pub in_limit : List ℕ → ℕ → List Fact → Field → ℤ → Bool
in_limit bs n facts f z = in_range (known_at bs n facts) (operand_of f) z

abbrev pub fact_at : List ℕ → ℕ → List Fact → Field → ℤ → Fact
fact_at bs n facts f z = get_or facts (place_in (known_at bs n facts) (operand_of f) z) (closed Boolean)

abbrev pub right_type : List ℕ → ℕ → List Fact → Field → ℤ → Bool
right_type bs n facts f z = same (fact_at bs n facts f z).yields (range_in (known_at bs n facts) (operand_of f)).yields

pub record Operand (bs : List ℕ) (n : ℕ) (facts : List Fact) (f : Field) (z : ℤ) : Type 0 where
  pub place : in_limit bs n facts f z ≡ true → place_in (known_at bs n facts) (operand_of f) z < 5_339
  pub allowed : field_allowed f z ≡ not (is_plain (operand_of f) && not (in_limit bs n facts f z))
  pub named : field_names bs n f z ≡ (is_plain (operand_of f) || in_limit bs n facts f z)
  pub typed : in_limit bs n facts f z ≡ true → field_typed bs f z ≡ right_type bs n facts f z
  pub free : in_limit bs n facts f z ≡ true → right_type bs n facts f z ≡ true → (t : ℕ) → t < 16
      → has t (fact_at bs n facts f z).free ≡ field_free (node_trees bs) f z t
  pub below : in_limit bs n facts f z ≡ true → FieldBelow n f z

not-not : (b : Bool) → b ≡ not (true && not b)
not-not true = refl
not-not false = refl

-- ---- the numbers that name something

pub named_below : (n : ℕ) (z : ℤ) → names n z ≡ true → nat_abs z < n
unfolding names
named_below n (pos k) e = ltb-true k n e
named_below n (negsuc k) e = cc

pub names_nothing : (z : ℤ) → names 0 z ≡ false
unfolding names
names_nothing (pos k) = le-ltb k 0 (omega arith)
names_nothing (negsuc k) = refl

zero_named : (z : ℤ) → is_zero z ≡ names 1 z
unfolding is_zero names eq_z
zero_named (pos zero) = refl
zero_named (pos (suc k)) = ne_eqb (suc k) 0 (λ e. omega arith) ∙ sym (le-ltb (suc k) 1 (omega arith))
zero_named (negsuc k) = refl

bit_named : (z : ℤ) → is_bit z ≡ names 2 z
unfolding is_bit names eq_z
bit_named (pos zero) = refl
bit_named (pos (suc zero)) = refl
bit_named (pos (suc (suc k))) = rw (ne_eqb (suc (suc k)) 0 (λ e. omega arith), ne_eqb (suc (suc k)) 1 (λ e. omega arith)) (sym (le-ltb (suc (suc k)) 2 (omega arith)))
bit_named (negsuc k) = refl

-- ---- types

pub same-sort : (a t : Sort) → same_sort a t ≡ same (sort_of a) (sort_of t)
unfolding same_sort sort_of
same-sort boolean boolean = refl
same-sort boolean integer = refl
same-sort integer boolean = refl
same-sort integer integer = refl

declared-sort : (k : ℕ) (t : Sort) → same_sort (sort_of_kind k) t ≡ same (declared_sort k) (sort_of t)
unfolding sort_of_kind sort_of
declared-sort k t = go (eqb k 0)
  where
    go : (b : Bool) → same_sort (cond b boolean integer) t ≡ same (cond b Boolean Integer) (sort_of t)
    go true = same-sort boolean t
    go false = same-sort integer t

equal-sorts : (a t : Sort) → same (sort_of a) (sort_of t) ≡ true → a ≡ t
unfolding sort_of
equal-sorts boolean boolean e = refl
equal-sorts boolean integer e = cc
equal-sorts integer boolean e = cc
equal-sorts integer integer e = refl

module _ (bs : List ℕ) (n : ℕ) (facts : List Fact) (k : FactsKnown bs n facts) where
  plain_fact : (w : ℕ) → w < 2 → get_or facts (0 + w) (closed Boolean) ≡ closed Boolean
  plain_fact zero h = k.at_zero
  plain_fact (suc zero) h = k.at_one
  plain_fact (suc (suc w)) h = absurd (not-suc-le-zero (le_of_suc-le-suc (le_of_suc-le-suc h)))

  module _ (z : ℤ) where
    -- fields that name nothing

    unused-operand : Operand bs n facts unused z
    unfolding ranges_of operand_of field_allowed field_names field_typed
    unused-operand =
        record {
          place = λ e. omega (arith, named_below 1 z e);
          allowed = zero_named z ∙ not-not (names 1 z);
          named = refl;
          typed = λ e. sym (rw (plain_fact (nat_abs z) (omega (arith, named_below 1 z e))));
          free = λ e q t h. rw (plain_fact (nat_abs z) (omega (arith, named_below 1 z e))) (has-none t h);
          below = λ e. tt;
        }

    number-operand : Operand bs n facts any_number z
    unfolding ranges_of operand_of field_allowed field_names field_typed names
    number-operand =
        record {
          place = λ e. omega arith;
          allowed = refl;
          named = refl;
          typed = λ e. sym (rw k.at_number);
          free = λ e q t h. rw k.at_number (has-none t h);
          below = λ e. tt;
        }

    truth-operand : Operand bs n facts truth_value z
    unfolding ranges_of operand_of field_allowed field_names field_typed
    truth-operand =
        record {
          place = λ e. omega (arith, named_below 2 z e);
          allowed = bit_named z ∙ not-not (names 2 z);
          named = refl;
          typed = λ e. sym (rw (plain_fact (nat_abs z) (named_below 2 z e)));
          free = λ e q t h. rw (plain_fact (nat_abs z) (named_below 2 z e)) (has-none t h);
          below = λ e. tt;
        }

    slot-operand : Operand bs n facts slot_number z
    unfolding ranges_of operand_of field_allowed field_names field_typed
    slot-operand =
        record {
          place = λ e. omega (arith, named_below (slot_count bs) z e, k.few_slots);
          allowed = refl;
          named = refl;
          typed = λ e. sym (rw (k.slots (nat_abs z) (named_below (slot_count bs) z e)));
          free = λ e q t h. rw (k.slots (nat_abs z) (named_below (slot_count bs) z e)) (has_one (nat_abs z) t (omega (arith, named_below (slot_count bs) z e, k.few_slots)) h);
          below = λ e. tt;
        }

    variable-operand : (t : Sort) → Operand bs n facts (variable_number t) z
    unfolding ranges_of operand_of sort_of field_allowed field_names field_typed variable_sort
    variable-operand boolean =
        record {
          place = λ e. omega (arith, named_below (variable_count bs) z e, k.few_variables);
          allowed = refl;
          named = refl;
          typed = λ e. rw (k.variables (nat_abs z) (named_below (variable_count bs) z e)) (declared-sort _ boolean);
          free = λ e q t h. rw (k.variables (nat_abs z) (named_below (variable_count bs) z e)) (has-none t h);
          below = λ e. tt;
        }
    variable-operand integer =
        record {
          place = λ e. omega (arith, named_below (variable_count bs) z e, k.few_variables);
          allowed = refl;
          named = refl;
          typed = λ e. rw (k.variables (nat_abs z) (named_below (variable_count bs) z e)) (declared-sort _ integer);
          free = λ e q t h. rw (k.variables (nat_abs z) (named_below (variable_count bs) z e)) (has-none t h);
          below = λ e. tt;
        }

    array-operand : (t : Sort) → Operand bs n facts (array_number t) z
    unfolding ranges_of operand_of sort_of field_allowed field_names field_typed array_sort
    array-operand boolean =
        record {
          place = λ e. omega (arith, named_below (length (array_records bs)) z e, k.few_arrays);
          allowed = refl;
          named = refl;
          typed = λ e. rw (k.arrays (nat_abs z) (named_below (length (array_records bs)) z e)) (declared-sort _ boolean);
          free = λ e q t h. rw (k.arrays (nat_abs z) (named_below (length (array_records bs)) z e)) (has-none t h);
          below = λ e. tt;
        }
    array-operand integer =
        record {
          place = λ e. omega (arith, named_below (length (array_records bs)) z e, k.few_arrays);
          allowed = refl;
          named = refl;
          typed = λ e. rw (k.arrays (nat_abs z) (named_below (length (array_records bs)) z e)) (declared-sort _ integer);
          free = λ e q t h. rw (k.arrays (nat_abs z) (named_below (length (array_records bs)) z e)) (has-none t h);
          below = λ e. tt;
        }

    -- a node yields what its fact says
    abbrev node_fact : Fact
    node_fact = get_or facts (339 + nat_abs z) (closed Boolean)

    node-typed : (t : Sort) → names n z ≡ true → same_sort (node_sort bs z) t ≡ same node_fact.yields (sort_of t)
    unfolding node_sort
    node-typed t e = same-sort (node_sort bs z) t ∙ ap (λ s. same s (sort_of t)) (sym (k.nodes (nat_abs z) (named_below n z e)).sort)

    node-sort : (t : Sort) → names n z ≡ true → same node_fact.yields (sort_of t) ≡ true → tree_sort (tree_at (node_trees bs) (nat_abs z)) ≡ t
    node-sort t e q =
        tree-sort bs (nat_abs z) (omega (arith, named_below n z e, k.within))
        ∙ equal-sorts (node_sort bs (pos (nat_abs z))) t (ap (λ s. same s (sort_of t)) (sym (k.nodes (nat_abs z) (named_below n z e)).sort) ∙ q)

    node-operand : (t : Sort) → Operand bs n facts (node_number t) z
    unfolding ranges_of operand_of sort_of field_allowed field_names field_typed tree_i tree_b
    node-operand boolean =
        record {
          place = λ e. omega (arith, named_below n z e, k.few_nodes, k.within);
          allowed = refl;
          named = refl;
          typed = λ e. node-typed boolean e;
          free = λ e q t h.
              (k.nodes (nat_abs z) (named_below n z e)).free t h ∙ sym (free-boolean (tree_at (node_trees bs) (nat_abs z)) t (node-sort boolean e q));
          below = named_below n z;
        }
    node-operand integer =
        record {
          place = λ e. omega (arith, named_below n z e, k.few_nodes, k.within);
          allowed = refl;
          named = refl;
          typed = λ e. node-typed integer e;
          free = λ e q t h.
              (k.nodes (nat_abs z) (named_below n z e)).free t h ∙ sym (free-integer (tree_at (node_trees bs) (nat_abs z)) t (node-sort integer e q));
          below = named_below n z;
        }

    pub operand : (f : Field) → Operand bs n facts f z
    operand unused = unused-operand
    operand any_number = number-operand
    operand truth_value = truth-operand
    operand (variable_number t) = variable-operand t
    operand slot_number = slot-operand
    operand (array_number t) = array-operand t
    operand (node_number t) = node-operand t
