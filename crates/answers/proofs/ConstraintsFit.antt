-- The constraints of a table: the check finds no fault in a CN record exactly where it names a Boolean node with no free slot.
use mathlib.Core.Path.{◌≡◌}
use Prim.Native.Nat.{ℕ, zero, suc, ◌<◌}
use native.Mathlib.Nat.{not-suc-le-zero}
use native.Mathlib.Omega.{arith}
use native.Mathlib.Decide.{dec_lt}
use mathlib.Core.Bool.{false, not, ◌&&◌}
use mathlib.Core.List.{List}
use mathlib.Core.Option.{none}
use lib.Dec.{T, eqb, eqb→eq}
use lib.IntN.{ℤ, pos, nat_abs}
use lib.Signed.{non_neg}
use Rattle.numbers.proofs.Tests.{&&-intro, &&-fst, &&-snd, Tnot→≡false}
use Rattle.numbers.proofs.Division.{eq_z→≡, eq_z-refl}
use Rattle.language.specs.Syntax.{boolean}
use Rattle.language.specs.Tables.{free_in, tree_at}
use Rattle.rules.specs.Soundness.{IsNode}
use Rattle.table.specs.Records.{kind_at, aux_at, x_at, y_at}
use Rattle.table.specs.Kinds.{node_number}
use Rattle.answers.specs.Sections.{slot_count, node_count, rows, node_trees}
use Rattle.answers.specs.Check.{is_zero, names, same_sort, node_sort, field_allowed, field_names, field_typed, no_free_slot, constraint_fault}
use Rattle.answers.proofs.Faults.{neither, none-or_else, unless-none, none-unless}
use Rattle.answers.proofs.Fields.{passed→FieldFits, FieldFits→passed}

-- "a constraint has no free slot": none of the declared slots is free in node k
abbrev pub ClosedNode : List ℕ → ℕ → Type 0
ClosedNode bs k = (t : ℕ) → t < slot_count bs → free_in t (tree_at (node_trees bs) k) ≡ false

-- The CN record p has no fault.
pub record ConstraintPassed (bs : List ℕ) (p : ℕ) : Type 0 where
  pub kind_is : kind_at bs p ≡ 0
  pub aux_is : aux_at bs p ≡ 0
  pub y_is : y_at bs p ≡ pos 0
  pub nonneg : T (non_neg (x_at bs p))
  pub node : IsNode (rows bs) boolean (nat_abs (x_at bs p))
  pub closed : ClosedNode bs (nat_abs (x_at bs p))

module _ (bs : List ℕ) where
  -- Where the test for free slots passes, none of them is free,
  no_free_slot→free : (k n : ℕ) → T (no_free_slot bs k n) → (t : ℕ) → t < n → free_in t (tree_at (node_trees bs) k) ≡ false
  unfolding no_free_slot
  no_free_slot→free k zero h t l = absurd (not-suc-le-zero l)
  no_free_slot→free k (suc n) h t l =
      go (no_free_slot→free k n (&&-fst (no_free_slot bs k n) (not (free_in n (tree_at (node_trees bs) k))) h) t) (dec_lt t n)
    where
      go : (t < n → free_in t (tree_at (node_trees bs) k) ≡ false) → Dec (t < n) → free_in t (tree_at (node_trees bs) k) ≡ false
      go before (yes b) = before b
      go before (no b) =
          let e : t ≡ n = omega arith in
          rw e (Tnot→≡false (free_in n (tree_at (node_trees bs) k)) (&&-snd (no_free_slot bs k n) (not (free_in n (tree_at (node_trees bs) k))) h))

  -- and where none is, it passes.
  free→no_free_slot : (k n : ℕ) → ((t : ℕ) → t < n → free_in t (tree_at (node_trees bs) k) ≡ false) → T (no_free_slot bs k n)
  unfolding no_free_slot
  free→no_free_slot k zero h = tt
  free→no_free_slot k (suc n) h =
      &&-intro (no_free_slot bs k n) (not (free_in n (tree_at (node_trees bs) k))) (free→no_free_slot k n (λ t l. h t (omega arith))) (rw (h n (omega arith)) tt)

  module _ (p : ℕ) where
    -- A constraint without a fault has passed,
    pub none→ConstraintPassed : constraint_fault bs p ≡ none → ConstraintPassed bs p
    unfolding constraint_fault is_zero field_allowed field_names field_typed rows
    none→ConstraintPassed h =
        let x : ℤ = x_at bs p in
        let first = none-or_else _ _ h in
        let second = none-or_else _ _ first.1 in
        let third = none-or_else _ _ second.1 in
        let allowed = none-unless 3 _ first.0 in
        let fits = passed→FieldFits bs (node_count bs) (node_number boolean) x tt (none-unless 4 _ second.0) (none-unless 5 _ third.0) in
        record {
          kind_is = eqb→eq (kind_at bs p) 0 (search &&-fst);
          aux_is = eqb→eq (aux_at bs p) 0 (search (&&-fst, &&-snd));
          y_is = eq_z→≡ (y_at bs p) (pos 0) (search &&-snd);
          nonneg = fits.0;
          node = fits.1;
          closed = no_free_slot→free (nat_abs x) (slot_count bs) (none-unless 6 _ third.1);
        }

    -- and one that has passed has no fault.
    pub ConstraintPassed→none : ConstraintPassed bs p → constraint_fault bs p ≡ none
    unfolding constraint_fault is_zero field_allowed field_names field_typed rows
    ConstraintPassed→none h =
        let x : ℤ = x_at bs p in
        let fits = FieldFits→passed bs (node_count bs) (node_number boolean) x (h.nonneg, h.node) in
        neither
        (unless-none 3 (eqb (kind_at bs p) 0 && eqb (aux_at bs p) 0 && is_zero (y_at bs p)) (rw (h.kind_is, h.aux_is, h.y_is) (eq_z-refl (pos 0))))
        (neither (unless-none 4 (names (node_count bs) x) fits.1)
        (neither (unless-none 5 (same_sort (node_sort bs x) boolean) fits.2)
        (unless-none 6 (no_free_slot bs (nat_abs x) (slot_count bs)) (free→no_free_slot (nat_abs x) (slot_count bs) h.closed))))
