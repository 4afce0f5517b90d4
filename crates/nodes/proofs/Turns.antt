-- What the loops over arrays and nodes keep.
use mathlib.Core.Path.{◌≡◌, refl, sym, ap, ◌∙◌}
use mathlib.Core.Bool.{Bool, true, false}
use mathlib.Core.List.{List, [], ◌∷◌}
use mathlib.Core.Option.{Option, none, some}
use mathlib.Core.Logic.{◌⊎◌, ⊎_elim}
use Prim.Native.Nat.{ℕ, zero, suc, ◌+◌, ◌-◌, ◌<◌}
use native.Mathlib.Nat.{add-zero, not-suc-le-zero, le_of_suc-le-suc, eq-or-lt_of_le}
use native.Mathlib.Numerals.{add-one}
use native.Mathlib.Omega.{arith}
use lib.Dec.{eqb}
use lib.IntN.{ℤ, nat_abs}
use lib.ListN.{length, get_or, set, drop, length-drop, length-set}
use lib.Seq.{get_or-drop, drop-drop, get_or-set_same, get_or-set_other}
use Rattle.std.specs.Prelude as Std
use Rattle.table.specs.Records.{AR, record_count, marked, kind_at, aux_at, x_at, y_at}
use Rattle.table.specs.Kinds.{Kind, kinds, kind_of}
use Rattle.table.specs.Parts.{parts_of}
use Rattle.table.specs.declared.Record.{Record}
use Rattle.kinds.specs.declared.Sort.TheVariants.{Boolean}
use Rattle.kinds.specs.declared.Entry.{Entry}
use Rattle.kinds.specs.Entries.{operand_x, operand_y, entry_of, entries_of, row_of}
use Rattle.kinds.proofs.Rows.{entry-at-row}
use Rattle.answers.specs.Sections.{arrays_from, arrays_at, array_records, behind_array, nodes_at, node_count}
use Rattle.answers.specs.Check.{node_fault}
use Rattle.answers.proofs.RunEnds.{arrays-on}
use Rattle.operands.specs.declared.Fact.{Fact}
use Rattle.operands.specs.declared.Known.{Known}
use Rattle.operands.specs.Facts.{closed, ranges_of, noted, IsWithin, looked, made_of, fault_of}
use Rattle.nodes.specs.Known.{NodeFact, FactsKnown, known_at, IsKnown}
use Rattle.nodes.proofs.Operands.{names_nothing, operand}
use Rattle.nodes.proofs.NodeStep.{Found, node-refused, node_made}

-- ---- arrays

-- the array numbered a begins at record p, if there is one
pub record ArrayAt (bs : List ℕ) (a p : ℕ) : Type 0 where
  pub rest : drop a (array_records bs) ≡ arrays_from bs (record_count bs - a) p

module _ (bs : List ℕ) where
  pub first-array : {p : ℕ} → p ≡ arrays_at bs → ArrayAt bs 0 p
  unfolding array_records
  first-array e = record { rest = rw e (ap (λ (k : ℕ). arrays_from bs k (arrays_at bs)) (omega arith)) }

  some-array : (k p : ℕ) → 0 < length (arrays_from bs k p) → (marked bs AR p ≡ true) × (arrays_from bs k p ≡ p ∷ arrays_from bs (k - 1) (behind_array bs p))
  unfolding arrays_from
  some-array zero p h = absurd (not-suc-le-zero h)
  some-array (suc k) p h = go (marked bs AR p) refl h
    where
      go : (b : Bool) → marked bs AR p ≡ b → 0 < length {A = ℕ} (elim b [ true ↦ p ∷ arrays_from bs k (behind_array bs p) | false ↦ [] ])
          → (marked bs AR p ≡ true) × (arrays_from bs (suc k) p ≡ p ∷ arrays_from bs (suc k - 1) (behind_array bs p))
      go true e l = (e, arrays-on bs (suc k) k p refl e ∙ ap (λ (j : ℕ). p ∷ arrays_from bs j (behind_array bs p)) {x = k} {y = suc k - 1} (omega arith))
      go false e l = absurd (not-suc-le-zero l)

  module _ {a p : ℕ} (at : ArrayAt bs a p) (h : a < length (array_records bs)) where
    here : (marked bs AR p ≡ true) × (arrays_from bs (record_count bs - a) p ≡ p ∷ arrays_from bs (record_count bs - a - 1) (behind_array bs p))
    here = some-array (record_count bs - a) p (omega (arith, ap length at.rest, length-drop a (array_records bs)))

    pub array-marked : marked bs AR p ≡ true
    array-marked = here.0

    pub array-record : get_or (array_records bs) a 0 ≡ p
    array-record =
        ap (λ (i : ℕ). get_or (array_records bs) i 0) (sym (add-zero a)) ∙ sym (get_or-drop a (array_records bs) 0 0) ∙ ap (λ (l : List ℕ). get_or l 0 0) (at.rest ∙ here.1)

    pub next-array : {c : ℕ} → c ≡ nat_abs (y_at bs p) → ArrayAt bs (a + 1) (p + 1 + c)
    unfolding behind_array
    next-array {c} ec =
        record {
          rest =
              sym (drop-drop 1 a (array_records bs)) ∙ ap (drop 1) (at.rest ∙ here.1)
              ∙ ap (λ (k : ℕ). arrays_from bs k (suc p + nat_abs (y_at bs p))) {y = record_count bs - (a + 1)} (omega arith)
              ∙ ap (arrays_from bs (record_count bs - (a + 1))) {y = p + 1 + c} (rw ec (omega arith));
        }

-- ---- nodes

module _ (bs : List ℕ) (n : ℕ) (facts : List Fact) where
  -- one node more
  known_more : FactsKnown bs n facts → n < node_count bs → {v : Fact} → NodeFact bs n v → FactsKnown bs (n + 1) (set facts (339 + n) v)
  known_more k h {v} f =
      record {
        size = length-set facts (339 + n) v ∙ k.size;
        few_slots = k.few_slots;
        few_variables = k.few_variables;
        few_arrays = k.few_arrays;
        few_nodes = k.few_nodes;
        within = omega arith;
        at_zero = beside 0 (λ e. omega arith) ∙ k.at_zero;
        at_one = beside 1 (λ e. omega arith) ∙ k.at_one;
        at_number = beside 2 (λ e. omega arith) ∙ k.at_number;
        slots = λ s l. beside (3 + s) (λ e. omega (arith, k.few_slots)) ∙ k.slots s l;
        arrays = λ a l. beside (19 + a) (λ e. omega (arith, k.few_arrays)) ∙ k.arrays a l;
        variables = λ a l. beside (83 + a) (λ e. omega (arith, k.few_variables)) ∙ k.variables a l;
        nodes = λ m l. go m (eq-or-lt_of_le (le_of_suc-le-suc (rw add-one at l)));
      }
    where
      beside : (i : ℕ) → ¬ (i ≡ 339 + n) → get_or (set facts (339 + n) v) i (closed Boolean) ≡ get_or facts i (closed Boolean)
      beside i d = get_or-set_other facts (339 + n) i v (closed Boolean) d

      go : (m : ℕ) → (m ≡ n) ⊎ (m < n) → NodeFact bs m (get_or (set facts (339 + n) v) (339 + m) (closed Boolean))
      go m c =
          ⊎_elim
          (λ e. rw (e, get_or-set_same facts (339 + n) v (closed Boolean) (omega (arith, k.size, k.few_nodes))) f)
          (λ l. rw (beside (339 + m) (λ e. omega arith)) (k.nodes m l)) c

  noted_at : (v : Fact) → noted (known_at bs n facts) n v ≡ known_at bs (n + 1) (set facts (339 + n) v)
  unfolding noted ranges_of
  noted_at v = refl

module _ (bs : List ℕ) (n : ℕ) {known : Known} (k : IsKnown bs n known) where
  -- what is known with one node more
  pub noted_known : n < node_count bs → {v : Fact} {more : Known} → NodeFact bs n v → more ≡ noted known n v → IsKnown bs (n + 1) more
  noted_known h {v} {more} f e =
      let q : more ≡ known_at bs (n + 1) (set known.facts (339 + n) v) = e ∙ ap (λ (g : Known). noted g n v) k.ranged ∙ noted_at bs n known.facts v in
      rw q (record { ranged = refl; facts_known = known_more bs n known.facts k.facts_known h f })

  -- an operand is looked up within the facts
  within : (o : Option Kind) (z : ℤ) → IsWithin (known_at bs n known.facts) (operand_x o) z × IsWithin (known_at bs n known.facts) (operand_y o) z
  unfolding operand_x operand_y ranges_of
  within none z = (λ e. absurd (no (sym (names_nothing z) ∙ e)), λ e. absurd (no (sym (names_nothing z) ∙ e)))
    where
      no : false ≡ true → ⊥
      no e = cc
  within (some f) z = ((operand bs n known.facts k.facts_known z f.field_x).place, (operand bs n known.facts k.facts_known z f.field_y).place)

  pub within-x : {kind : Entry} (o : Option Kind) (z : ℤ) → kind ≡ entry_of o → IsWithin known kind.x z
  unfolding entry_of
  within-x o z e = rw (e, k.ranged) (within o z).0

  pub within-y : {kind : Entry} (o : Option Kind) (z : ℤ) → kind ≡ entry_of o → IsWithin known kind.y z
  unfolding entry_of
  within-y o z e = rw (e, k.ranged) (within o z).1

-- the entry of a record's kind
pub entry_is : {l : List Entry} {row kind : ℕ} (number : ℕ) (d : Entry) → l ≡ entries_of kinds → row ≡ row_of kind → kind ≡ number → get_or l row d ≡ entry_of (kind_of number)
entry_is number d el er ek = rw (el, er, ek) (entry-at-row number d)

-- ---- a turn of the loop over the nodes, at record p

module _ (bs : List ℕ) (n : ℕ) {known : Known} (k : IsKnown bs n known) {p : ℕ} (ep : p ≡ nodes_at bs + n) {r : Record} (er : r ≡ parts_of bs p) {kind : Entry}
    (ek : kind ≡ entry_of (kind_of (kind_at bs p))) {x y : Found} (ex : x ≡ looked known kind.x r.x) (ey : y ≡ looked known kind.y r.y) {m : Std.Option Fact}
    (em : m ≡ made_of (eqb r.aux 0) kind x y) where
  abbrev here_known : Known
  here_known = known_at bs n known.facts

  o : Option Kind
  o = kind_of (kind_at bs (nodes_at bs + n))

  same-kind : kind ≡ entry_of o
  unfolding o
  same-kind = ek ∙ ap (λ (q : ℕ). entry_of (kind_of (kind_at bs q))) ep

  same_record : r ≡ parts_of bs (nodes_at bs + n)
  same_record = er ∙ ap (parts_of bs) ep

  same-x : x ≡ looked here_known (operand_x o) (x_at bs (nodes_at bs + n))
  unfolding entry_of
  same-x = ex ∙ ap (λ (q : Known). looked q kind.x r.x) k.ranged ∙ ap (λ (e : Entry). looked here_known e.x r.x) same-kind
      ∙ ap (λ (q : Record). looked here_known (operand_x o) q.x) same_record

  same-y : y ≡ looked here_known (operand_y o) (y_at bs (nodes_at bs + n))
  unfolding entry_of
  same-y = ey ∙ ap (λ (q : Known). looked q kind.y r.y) k.ranged ∙ ap (λ (e : Entry). looked here_known e.y r.y) same-kind
      ∙ ap (λ (q : Record). looked here_known (operand_y o) q.y) same_record

  same_aux : r.aux ≡ aux_at bs (nodes_at bs + n)
  same_aux = ap (λ (q : Record). q.aux) same_record

  same-made : made_of (eqb (aux_at bs (nodes_at bs + n)) 0) (entry_of o) (looked here_known (operand_x o) (x_at bs (nodes_at bs + n))) (looked here_known (operand_y o) (y_at bs (nodes_at bs + n))) ≡ m
  same-made = rw (← same-x, ← same-y, ← same_aux, ← same-kind) (sym em)

  pub turn-made : n < node_count bs → {w : Fact} → m ≡ Std.Some w → (node_fault bs n (nodes_at bs + n) ≡ none) × NodeFact bs n w
  unfolding o
  turn-made h q = node_made bs n known.facts k.facts_known h o refl (same-made ∙ q)

  pub turn-refused : m ≡ Std.None → node_fault bs n (nodes_at bs + n) ≡ some (fault_of r.aux kind x y)
  unfolding o
  turn-refused q = node-refused bs n known.facts k.facts_known o refl (same-made ∙ q) ∙ rw (← same-x, ← same-y, ← same_aux, ← same-kind)
