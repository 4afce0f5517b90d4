-- The nodes of a table: the check finds no fault in a node record exactly where its kind exists and its fields fit; then its row fits.
use mathlib.Core.Path.{◌≡◌, refl}
use Prim.Native.Nat.{ℕ, zero, suc, ◌<◌}
use native.Mathlib.Omega.{arith}
use mathlib.Core.Bool.{◌&&◌}
use mathlib.Core.List.{List, [], ◌∷◌}
use mathlib.Core.Option.{Option, none, some, some-ne-none}
use lib.Dec.{eqb, eqb→eq, eqb_refl}
use Rattle.numbers.proofs.Tests.{&&-intro, &&-fst, &&-snd}
use Rattle.language.specs.Syntax.{Declarations}
use Rattle.language.specs.Tables.{Row}
use Rattle.rules.specs.Soundness.{RowFits, RowsFit}
use Rattle.rules.proofs.Adding.{RowsFit-++}
use Rattle.table.specs.Records.{kind_at, aux_at, x_at, y_at}
use Rattle.table.specs.Kinds.{Field, Kind, kind_of, row_in}
use Rattle.answers.specs.Sections.{listed, declarations, row_of}
use Rattle.answers.specs.Check.{field_allowed, field_names, field_typed, kind_fault, node_fault}
use Rattle.answers.proofs.Faults.{neither, none-or_else, unless-none, none-unless}
use Rattle.answers.proofs.KindsFit.{FieldFits, kind_of-fits}
use Rattle.answers.proofs.Fields.{rows_below, passed→FieldFits, FieldFits→passed}

-- Record p, as the node number n, has no fault.
pub record NodePassed (bs : List ℕ) (n p : ℕ) : Type 0 where
  pub kind : Kind
  pub kind_is : kind_of (kind_at bs p) ≡ some kind
  pub aux_is : aux_at bs p ≡ 0
  pub x_fits : FieldFits (declarations bs) (rows_below bs n) kind.field_x (x_at bs p)
  pub y_fits : FieldFits (declarations bs) (rows_below bs n) kind.field_y (y_at bs p)

module _ (bs : List ℕ) (n p : ℕ) where
  -- A node of a kind that exists and without a fault has passed.
  kind_fault-none→NodePassed : (k : Kind) → kind_of (kind_at bs p) ≡ some k → kind_fault bs n k p ≡ none → NodePassed bs n p
  unfolding kind_fault
  kind_fault-none→NodePassed k e h =
      let first = none-or_else _ _ h in
      let second = none-or_else _ _ first.1 in
      let allowed = none-unless 3 _ first.0 in
      let named = none-unless 4 _ second.0 in
      let typed = none-unless 5 _ second.1 in
      record {
        kind = k;
        kind_is = e;
        aux_is = eqb→eq (aux_at bs p) 0 (search &&-fst);
        x_fits = passed→FieldFits bs n k.field_x (x_at bs p) (search (&&-fst, &&-snd)) (search &&-fst) (search &&-fst);
        y_fits = passed→FieldFits bs n k.field_y (y_at bs p) (search &&-snd) (search &&-snd) (search &&-snd);
      }

  -- So a node without a fault has passed,
  pub none→NodePassed : node_fault bs n p ≡ none → NodePassed bs n p
  unfolding node_fault
  none→NodePassed = go (kind_of (kind_at bs p)) refl
    where
      go : (o : Option Kind) → kind_of (kind_at bs p) ≡ o → ◌≡◌ {A = Option ℕ} (elim o [ none ↦ some 3 | some k ↦ kind_fault bs n k p ]) none
          → NodePassed bs n p
      go none e h = absurd (some-ne-none 3 h)
      go (some k) e h = kind_fault-none→NodePassed k e h

  -- and one that has passed has no fault.
  pub NodePassed→none : NodePassed bs n p → node_fault bs n p ≡ none
  unfolding node_fault kind_fault
  NodePassed→none h =
      let X : Field = h.kind.field_x in
      let Y : Field = h.kind.field_y in
      let x = FieldFits→passed bs n X (x_at bs p) h.x_fits in
      let y = FieldFits→passed bs n Y (y_at bs p) h.y_fits in
      rw (h.kind_is, node_fault)
      (neither
      (unless-none 3 _
      (&&-intro (eqb (aux_at bs p) 0 && field_allowed X (x_at bs p)) _ (&&-intro (eqb (aux_at bs p) 0) _ (rw h.aux_is (eqb_refl 0)) x.0) y.0))
      (neither (unless-none 4 _ (&&-intro (field_names bs n X (x_at bs p)) _ x.1 y.1))
      (unless-none 5 _ (&&-intro (field_typed bs X (x_at bs p)) _ x.2 y.2))))

  -- The row of a node without a fault fits behind the rows before it.
  pub NodePassed→RowFits : NodePassed bs n p → RowFits (declarations bs) (rows_below bs n) (row_of bs p)
  unfolding row_of row_in
  NodePassed→RowFits h =
      rw (h.kind_is, row_of, row_in) ((kind_of-fits (kind_at bs p) h.kind h.kind_is).fits (declarations bs) (rows_below bs n) (x_at bs p) (y_at bs p) h.x_fits h.y_fits)

-- Rows fit where each fits behind those before it.
pub RowsFit-listed : (Γ : Declarations) (n : ℕ) (f : ℕ → Row) → ((k : ℕ) → k < n → RowFits Γ (listed k f) (f k)) → RowsFit Γ [] (listed n f)
unfolding listed
RowsFit-listed Γ zero f h = tt
RowsFit-listed Γ (suc n) f h = RowsFit-++ Γ [] (listed n f) (f n ∷ []) (RowsFit-listed Γ n f (λ k l. h k (omega arith))) (h n (omega arith), tt)
