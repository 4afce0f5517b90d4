-- The check, part by part: it finds no fault exactly where none of its parts does.
use mathlib.Core.Path.{◌≡◌, refl}
use Prim.Native.Nat.{ℕ, ◌+◌, ◌%◌, ◌≤◌, ◌<◌}
use native.Mathlib.Omega.{arith}
use mathlib.Core.Bool.{Bool, ◌&&◌}
use mathlib.Core.List.{List}
use mathlib.Core.Option.{none}
use lib.Arith.{le→nltb}
use lib.Dec.{T, eqb, leb, ltb, leb→le, le→leb, nltb→le, eqb→eq, eqb_refl}
use lib.ListN.{length}
use Rattle.numbers.specs.Limits.{most_bytes}
use Rattle.numbers.proofs.Tests.{&&-intro, &&-fst, &&-snd, T→≡true, Tnot→≡false}
use Rattle.table.specs.Records.{record_size, record_count}
use Rattle.answers.specs.Sections.{variables_at, slots_at, arrays_at, nodes_at, constraints_at, rest_at, variable_count, slot_count, node_count, constraint_count}
use Rattle.answers.specs.Check.{header_fault, variable_fault, slot_fault, arrays_fault, node_fault, constraint_fault, rest_fault, length_allowed, length_fault, first, check_order, check_fault}
use Rattle.answers.proofs.Faults.{neither, none-or_else, none-cond, none-cond-not, first_fault-none, none-first_fault}

-- a length that is allowed: neither too short nor too long, in whole records
pub record LengthAllowed (bs : List ℕ) : Type 0 where
  pub some_bytes : record_size ≤ length bs
  pub few_bytes : length bs ≤ most_bytes
  pub whole : length bs % record_size ≡ 0

-- none of the check's parts finds a fault
pub record NoFaults (bs : List ℕ) : Type 0 where
  pub length-allowed : LengthAllowed bs
  pub header_none : header_fault bs 0 ≡ none
  pub variables_none : (i : ℕ) → i < variable_count bs → variable_fault bs i (variables_at bs + i) ≡ none
  pub slots_none : (i : ℕ) → i < slot_count bs → slot_fault bs i (slots_at bs + i) ≡ none
  pub arrays_none : arrays_fault bs (record_count bs) 0 (arrays_at bs) ≡ none
  pub nodes_none : (n : ℕ) → n < node_count bs → node_fault bs n (nodes_at bs + n) ≡ none
  pub constraints_none : (i : ℕ) → i < constraint_count bs → constraint_fault bs (constraints_at bs + i) ≡ none
  pub no_rest : record_count bs ≤ rest_at bs

module _ (bs : List ℕ) where
  -- A length without a fault is allowed,
  length_fault→LengthAllowed : length_fault bs ≡ none → LengthAllowed bs
  unfolding length_fault length_allowed
  length_fault→LengthAllowed h =
      let passed = none-cond (leb record_size (length bs) && leb (length bs) most_bytes && eqb (length bs % record_size) 0) _ h in
      record {
        some_bytes = leb→le record_size (length bs) (search &&-fst);
        few_bytes = leb→le (length bs) most_bytes (search (&&-fst, &&-snd));
        whole = eqb→eq (length bs % record_size) 0 (search &&-snd);
      }

  -- and a length that is allowed has no fault.
  LengthAllowed→length_fault : LengthAllowed bs → length_fault bs ≡ none
  unfolding length_fault length_allowed
  LengthAllowed→length_fault h =
      let a : Bool = leb record_size (length bs) in
      let b : Bool = leb (length bs) most_bytes in
      let c : Bool = eqb (length bs % record_size) 0 in
      let front : T (a && b) = &&-intro a b (le→leb record_size (length bs) h.some_bytes) (le→leb (length bs) most_bytes h.few_bytes) in
      rw (T→≡true (a && b && c) (&&-intro (a && b) c front (rw h.whole (eqb_refl 0))))

  -- No fault at all is no fault in each part,
  pub check_fault→NoFaults : check_fault bs ≡ none → NoFaults bs
  unfolding check_fault check_order first rest_fault
  check_fault→NoFaults h =
      let a = none-or_else _ _ h in
      let b = none-or_else _ _ a.1 in
      let c = none-or_else _ _ b.1 in
      let d = none-or_else _ _ c.1 in
      let e = none-or_else _ _ d.1 in
      let f = none-or_else _ _ e.1 in
      let g = none-or_else _ _ f.1 in
      record {
        length-allowed = length_fault→LengthAllowed a.0;
        header_none = none-first_fault _ 0 1 b.0 0 (omega arith);
        variables_none = none-first_fault _ (variables_at bs) (variable_count bs) c.0;
        slots_none = none-first_fault _ (slots_at bs) (slot_count bs) d.0;
        arrays_none = e.0;
        nodes_none = none-first_fault _ (nodes_at bs) (node_count bs) f.0;
        constraints_none = none-first_fault _ (constraints_at bs) (constraint_count bs) g.0;
        no_rest = nltb→le (rest_at bs) (record_count bs) (none-cond-not (ltb (rest_at bs) (record_count bs)) _ (none-or_else _ _ g.1).0);
      }

  -- and no fault in each part is none at all.
  pub NoFaults→check_fault : NoFaults bs → check_fault bs ≡ none
  unfolding check_fault check_order first rest_fault
  NoFaults→check_fault h =
      neither (LengthAllowed→length_fault h.length-allowed)
      (neither (first_fault-none (λ i. header_fault bs 0) 0 1 (λ i l. h.header_none))
      (neither (first_fault-none _ (variables_at bs) (variable_count bs) h.variables_none)
      (neither (first_fault-none _ (slots_at bs) (slot_count bs) h.slots_none)
      (neither h.arrays_none
      (neither (first_fault-none _ (nodes_at bs) (node_count bs) h.nodes_none)
      (neither (first_fault-none _ (constraints_at bs) (constraint_count bs) h.constraints_none)
      (neither (rw (Tnot→≡false (ltb (rest_at bs) (record_count bs)) (le→nltb (rest_at bs) (record_count bs) h.no_rest))) refl)))))))
