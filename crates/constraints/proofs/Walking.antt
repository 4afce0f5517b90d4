-- The walk over the constraints, one after the other.
use mathlib.Core.Path.{◌≡◌, refl, sym, ap, ap₂, ◌∙◌}
use mathlib.Core.Logic.{⊎_elim}
use Prim.Native.Nat.{ℕ, zero, suc, ◌+◌, ◌-◌, ◌≤◌, ◌<◌}
use native.Mathlib.Numerals.{add-one}
use native.Mathlib.Omega.{arith}
use mathlib.Core.Bool.{Bool, true, false, ◌&&◌}
use mathlib.Core.List.{List, [], ◌∷◌, ◌++◌, map, map-append}
use mathlib.Core.Option.{Option, none, some}
use lib.Dec.{eqb}
use lib.IntN.{pos, nat_abs}
use lib.ListN.{length, take, drop, set, replicate, length-set, length-replicate, length-map, take-append-drop}
use lib.Seq.{take-suc-set, drop-set-lt, drop-drop}
use Rattle.numbers.proofs.Naturals.{lt_or_ge}
use Rattle.language.specs.Readings.{Reading}
use Rattle.language.specs.Tables.{tree_b}
use Rattle.language.specs.Meaning.{Assignment, met_within_b}
use Rattle.table.specs.Records.{record_count, x_at}
use Rattle.answers.specs.Sections.{listed, constraints_at, node_count, constraint_count, declarations, node_trees, constraints}
use Rattle.answers.specs.Check.{check_fault}
use Rattle.answers.specs.Answers.{unset, value_of_constraint, all_met_within, verdict, verdicts, all_one}
use Rattle.answers.proofs.Listed.{length-listed}
use Rattle.answers.proofs.Declared.{length-rows}
use Rattle.answers.proofs.ConstraintsFit.{ConstraintPassed, none→ConstraintPassed}
use Rattle.answers.proofs.Passed.{Passed, check_fault≡none→Passed, Passed→SectionsOrdered, few_records}
use Rattle.operations.specs.declared.values.Walked.{Walked}
use Rattle.operations.specs.Values.{of_walk, of_truth, truth_of}
use Rattle.evaluator.specs.Walks.{Laid, truth_walked, truth_at}
use Rattle.preparation.specs.declared.PreparedTable.{PreparedTable}
use Rattle.std.proofs.Common.{Some, None}
use Rattle.preparation.proofs.Laid.{prepared_laid, truth_at-prepared}
use Rattle.constraints.specs.Verdicts.{walked_at, ConstraintAt, verdicts_of}

-- ---- tests

&&-true : (a : Bool) → (a && true) ≡ a
&&-true true = refl
&&-true false = refl

&&-false : (a : Bool) → (a && false) ≡ false
&&-false true = refl
&&-false false = refl

&&-assoc : (a b c : Bool) → (a && (b && c)) ≡ ((a && b) && c)
&&-assoc true b c = refl
&&-assoc false b c = refl

-- ---- one constraint

module _ (table : List ℕ) (sound : check_fault table ≡ none) where
  passed : Passed table
  passed = check_fault≡none→Passed table sound

  -- A constraint's record is one of the table's,
  pub constraint-within : {p : ℕ} → ConstraintAt table p → p < record_count table
  constraint-within c = omega (arith, c.before, passed.no_rest)

  -- and it names a node.
  pub constraint-names : {p : ℕ} → ConstraintAt table p → nat_abs (x_at table p) < node_count table
  unfolding constraint_count
  constraint-names {p} c =
      let i : ℕ = p - constraints_at table in
      let e : constraints_at table + i ≡ p = omega (arith, c.from) in
      let one : ConstraintPassed table (constraints_at table + i) = none→ConstraintPassed table _ (passed.constraints_passed i (omega (arith, c.from, c.before))) in
      let named : ConstraintPassed table p = rw e at one in
      omega (arith, named.node.earlier, length-rows table)

  -- There are as many as fit.
  pub few-constraints : constraint_count table ≤ 5000
  few-constraints = omega (arith, Passed→SectionsOrdered table passed, few_records table passed.few_bytes)

module _ (t : PreparedTable) where
  -- The walk may be taken.
  pub prepared-laid : Laid t.bytes.now t.places
  prepared-laid = rw t.copied (prepared_laid t.checked.bytes.now t.places (check_fault≡none→Passed _ t.checked.sound) t.placed)

  -- It gives what the table says.
  pub prepared-walked : (ρ : Reading) (α : Assignment) (k : ℕ) → truth_at ρ t.bytes.now t.places α (replicate 16 (pos 0)) k ≡ walked_at t.checked.bytes.now ρ α k
  unfolding walked_at
  prepared-walked ρ α k = rw t.copied (truth_at-prepared t.checked.bytes.now t.places (check_fault≡none→Passed _ t.checked.sound) t.placed ρ α k)

-- ---- all constraints

module _ (table : List ℕ) (ρ : Reading) (α : Assignment) where
  -- the node of constraint i, whether its walk stays within the limit, and its byte
  abbrev pub node_at : ℕ → ℕ
  node_at i = nat_abs (x_at table (constraints_at table + i))

  abbrev pub within_at : ℕ → Bool
  within_at k = met_within_b ρ (declarations table) α (tree_b (node_trees table) k) unset

  abbrev pub byte_at : ℕ → ℕ
  byte_at k = verdict (value_of_constraint table ρ α k)

  -- what holds when i constraints have been walked
  pub record Walked-so-far (bytes : List ℕ) (all : Bool) (i : ℕ) : Type 0 where
    pub sized : length bytes ≡ 5000
    pub within : all_met_within table ρ α (listed i node_at) ≡ true
    pub written : take i bytes ≡ map byte_at (listed i node_at)
    pub zeros : drop i bytes ≡ replicate (5000 - i) 0
    pub all_is : all ≡ all_one (map byte_at (listed i node_at))

  -- ---- one more

  all_met_within-snoc : (ks : List ℕ) (k : ℕ) → all_met_within table ρ α (ks ++ (k ∷ [])) ≡ (all_met_within table ρ α ks && within_at k)
  unfolding all_met_within
  all_met_within-snoc [] k = &&-true (within_at k)
  all_met_within-snoc (j ∷ ks) k = ap (λ (b : Bool). within_at j && b) (all_met_within-snoc ks k) ∙ &&-assoc (within_at j) (all_met_within table ρ α ks) (within_at k)

  all_one-snoc : (vs : List ℕ) (v : ℕ) → all_one (vs ++ (v ∷ [])) ≡ (all_one vs && eqb v 1)
  unfolding all_one
  all_one-snoc [] v = &&-true (eqb v 1)
  all_one-snoc (w ∷ vs) v = ap (λ (b : Bool). eqb w 1 && b) (all_one-snoc vs v) ∙ &&-assoc (eqb w 1) (all_one vs) (eqb v 1)

  -- what a walk says of its constraint
  walked_within : (k : ℕ) {w : Walked} → w ≡ walked_at table ρ α k → w.within ≡ within_at k
  unfolding walked_at truth_walked
  walked_within k e = ap (λ (w : Walked). w.within) e ∙ by_within (within_at k) _
    where
      by_within : (b : Bool) (v : _) → (of_walk b v).within ≡ b
      by_within true v = refl
      by_within false v = refl

  walked_byte : (k : ℕ) {w : Walked} → w ≡ walked_at table ρ α k → w.within ≡ true → verdict (truth_of w.value) ≡ byte_at k
  unfolding walked_at truth_walked value_of_constraint
  walked_byte k e c = ap (λ (w : Walked). verdict (truth_of w.value)) e ∙ by_within (within_at k) (value_of_constraint table ρ α k) (sym (walked_within k e) ∙ c)
    where
      by_within : (b : Bool) (v : Option Bool) → b ≡ true → verdict (truth_of (of_walk b (of_truth v)).value) ≡ verdict v
      by_within true none q = refl
      by_within true (some true) q = refl
      by_within true (some false) q = refl
      by_within false v q = let z : ◌≡◌ {A = ℕ} 0 1 = cc in absurd (omega arith)

  pub walked_none : Walked-so-far (replicate 5000 0) true 0
  unfolding listed all_met_within all_one
  walked_none = record { sized = length-replicate {A = ℕ} 5000 0; within = refl; written = refl; zeros = refl; all_is = refl }

  one_less : (i : ℕ) → i < 5000 → 5000 - i ≡ suc (5000 - (i + 1))
  one_less i l = omega arith

  pub walked_more : {bytes : List ℕ} {all : Bool} {i p v : ℕ} {w : Walked} → Walked-so-far bytes all i → i < 5000 → p ≡ constraints_at table + i
      → w ≡ walked_at table ρ α (nat_abs (x_at table p)) → w.within ≡ true → v ≡ verdict (truth_of w.value)
      → Walked-so-far (set bytes i v) (all && eqb v 1) (i + 1)
  unfolding listed
  walked_more {bytes} {all} {i} {p} {v} s l q e c f =
      let at : walked_at table ρ α (nat_abs (x_at table p)) ≡ walked_at table ρ α (node_at i) = ap (λ j. walked_at table ρ α (nat_abs (x_at table j))) q in
      let b : v ≡ byte_at (node_at i) = f ∙ walked_byte (node_at i) (e ∙ at) c in
      record {
        sized = length-set bytes i v ∙ s.sized;
        within = rw (add-one i, all_met_within-snoc (listed i node_at) (node_at i), s.within) (sym (walked_within (node_at i) (e ∙ at)) ∙ c);
        written = rw (add-one i, take-suc-set bytes i v (omega (arith, s.sized)), s.written, b) (sym (map-append byte_at (listed i node_at) (node_at i ∷ [])));
        zeros = drop-set-lt (i + 1) bytes i v (omega arith) ∙ sym (drop-drop 1 i bytes) ∙ ap (drop 1) (s.zeros ∙ ap (λ n. replicate n 0) (one_less i l));
        all_is = rw (add-one i, map-append, all_one-snoc (map byte_at (listed i node_at)) (byte_at (node_at i)), s.all_is, b);
      }

  -- ---- the end

  -- A constraint that does not stay within the limit leaves the table so,
  within-not : (n i : ℕ) → i < n → within_at (node_at i) ≡ false → all_met_within table ρ α (listed n node_at) ≡ false
  unfolding listed
  within-not zero i l e = absurd (omega arith)
  within-not (suc n) i l e = all_met_within-snoc (listed n node_at) (node_at n) ∙ ⊎_elim (λ m. before (within-not n i m e)) (λ m. last (omega arith)) (lt_or_ge i n)
    where
      before : all_met_within table ρ α (listed n node_at) ≡ false → (all_met_within table ρ α (listed n node_at) && within_at (node_at n)) ≡ false
      before q = rw q

      last : i ≡ n → (all_met_within table ρ α (listed n node_at) && within_at (node_at n)) ≡ false
      last q = rw (← q, e) (&&-false (all_met_within table ρ α (listed i node_at)))

  pub walked_beyond : {i p : ℕ} {w : Walked} → i < constraint_count table → p ≡ constraints_at table + i
      → w ≡ walked_at table ρ α (nat_abs (x_at table p)) → w.within ≡ false
      → None ≡ verdicts_of table ρ α
  unfolding constraints verdicts_of
  walked_beyond {i} l q e c = rw (within-not (constraint_count table) i l (ap (λ j. within_at (nat_abs (x_at table j))) (sym q) ∙ sym (walked_within _ e) ∙ c))

  -- and where all are, they are the table's.
  pub walked_all : {bytes : List ℕ} {all : Bool} {i : ℕ} → Walked-so-far bytes all i → i ≡ constraint_count table
      → Some (record { bytes = bytes; all = all }) ≡ verdicts_of table ρ α
  unfolding constraints verdicts verdicts_of
  walked_all {bytes} {all} {i} s q =
      let within : all_met_within table ρ α (listed (constraint_count table) node_at) ≡ true = rw q at s.within in
      let counted : length (map byte_at (listed i node_at)) ≡ i = length-map (listed i node_at) byte_at ∙ length-listed i node_at in
      let whole : bytes ≡ map byte_at (listed i node_at) ++ replicate (5000 - length (map byte_at (listed i node_at))) 0 = sym (take-append-drop i bytes) ∙ ap₂ ◌++◌ s.written (s.zeros ∙ ap (λ n. replicate (5000 - n) 0) (sym counted)) in
      rw (within, ← q) (ap₂ (λ (b : List ℕ) (a : Bool). Some (record { bytes = b; all = a })) whole s.all_is)
