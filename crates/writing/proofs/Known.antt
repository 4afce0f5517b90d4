-- What the check gives of a node's record and of the arrays.
use mathlib.Core.Path.{◌≡◌, refl, sym, ap, subst, ◌∙◌}
use Prim.Native.Nat.{ℕ, ◌+◌, ◌<◌}
use native.Mathlib.Omega.{arith}
use mathlib.Core.Bool.{Bool, true, false}
use mathlib.Core.List.{List}
use mathlib.Core.Option.{none, some, some-injective}
use borrow.Author.Tests.{eqb-true}
use lib.Dec.{eqb}
use lib.IntN.{ℤ, nat_abs}
use lib.ListN.{length, get_or, length-map}
use Rattle.language.specs.Syntax.{Declarations}
use Rattle.language.specs.Tables.{Row}
use Rattle.table.specs.Records.{record_count, kind_at, x_at}
use Rattle.table.specs.Kinds.{Kind, kinds, kind_of}
use Rattle.answers.specs.Sections.{nodes_at, node_count, array_records, array_of, declarations, behind_array}
use Rattle.answers.specs.Check.{check_fault}
use Rattle.answers.proofs.KindsFit.{FieldFits}
use Rattle.answers.proofs.NodesFit.{none→NodePassed}
use Rattle.answers.proofs.Passed as Answers
use Rattle.layout.proofs.Checked.{checked}
use Rattle.layout.proofs.Order.{ordered}
use Rattle.bounds.proofs.Declared.{behind-inside}
use Rattle.translator.specs.Words.{looks_up}

-- A node's record stands in the table, its kind is one of the numbered ones, and an array that it looks up is declared.
pub record KnownNode (bs : List ℕ) (p : ℕ) : Type 0 where
  pub inside : p < record_count bs
  pub known_kind : kind_at bs p < 31
  pub known_array : looks_up (kind_at bs p) ≡ true → nat_abs (x_at bs p) < length (array_records bs)

-- The arrays are few, and their records stand in the table.
pub record KnownArrays (bs : List ℕ) : Type 0 where
  pub few : length (array_records bs) < 65
  pub inside : (a : ℕ) → a < length (array_records bs) → get_or (array_records bs) a 0 < record_count bs

-- A node that looks an array up names one that is declared.
names-declared : (Γ : Declarations) (before : List Row) (x : ℤ) (k : ℕ) (q : Kind) → looks_up k ≡ true → kind_of k ≡ some q → FieldFits Γ before q.field_x x → nat_abs x < length Γ.arrays
unfolding looks_up kind_of kinds
names-declared Γ before x k q t e f = by_test (eqb k 15) refl
  where
    as_declared : (j : Kind) → some j ≡ some q → FieldFits Γ before j.field_x x
    as_declared j s = subst (λ (m : Kind). FieldFits Γ before m.field_x x) (sym (some-injective j q s)) f

    by_test : (b : Bool) → eqb k 15 ≡ b → nat_abs x < length Γ.arrays
    by_test true z = (as_declared _ (ap kind_of (sym (eqb-true k 15 z)) ∙ e)).1.declared
    by_test false z = (as_declared _ (ap kind_of (sym (eqb-true k 16 (rw z at t))) ∙ e)).1.declared

module _ (bs : List ℕ) (e : check_fault bs ≡ none) where
  -- A node that the check passes is known,
  pub known-node : (n : ℕ) {p : ℕ} → p ≡ nodes_at bs + n → n < node_count bs → KnownNode bs p
  unfolding node_count declarations
  known-node n {p} at h =
      let passed = checked bs e in
      let o = ordered bs passed in
      rw at
      (record {
        inside = omega (arith, o);
        known_kind = passed.known_kinds n h;
        known_array = λ t. array t;
      })
    where
      array : looks_up (kind_at bs (nodes_at bs + n)) ≡ true → nat_abs (x_at bs (nodes_at bs + n)) < length (array_records bs)
      array t =
          let node = none→NodePassed bs n (nodes_at bs + n) ((Answers.check_fault≡none→Passed bs e).nodes_passed n h) in
          omega (arith, names-declared (declarations bs) _ (x_at bs (nodes_at bs + n)) (kind_at bs (nodes_at bs + n)) node.kind t node.kind_is node.x_fits, length-map (array_records bs) (array_of bs))

  -- and so are the arrays.
  pub known-arrays : KnownArrays bs
  unfolding behind_array
  known-arrays =
      let passed = checked bs e in
      record { few = omega (arith, passed.few_arrays); inside = λ a h. omega (arith, behind-inside bs passed a h refl) }
