-- A table that the check passes is laid out as the code relies on.
use mathlib.Core.Path.{◌≡◌, sym, ◌∙◌}
use mathlib.Core.Logic.{⊎_elim}
use Prim.Native.Nat.{ℕ, ◌+◌, ◌≤◌, ◌<◌}
use native.Mathlib.Omega.{arith}
use mathlib.Core.List.{List}
use mathlib.Core.Option.{none, some}
use lib.ListN.{get_or-eq_default}
use Rattle.numbers.proofs.Naturals.{lt_or_ge}
use Rattle.table.specs.Records.{record_size, kind_at}
use Rattle.table.specs.Kinds.{Kind, kinds, kind_of}
use Rattle.answers.specs.Sections.{nodes_at}
use Rattle.answers.specs.Check.{check_fault, node_fault}
use Rattle.answers.proofs.NodesFit.{none→NodePassed}
use Rattle.answers.proofs.Passed as Answers
use Rattle.layout.specs.Passed.{Passed}

no_kind : (k : ℕ) → 31 ≤ k → kind_of k ≡ none
unfolding kind_of kinds
no_kind k h = get_or-eq_default kinds none {n = k} h

-- A node without a fault has a kind that exists.
known_kind : (bs : List ℕ) (n p : ℕ) → node_fault bs n p ≡ none → kind_at bs p < 31
known_kind bs n p e = ⊎_elim (λ h. h) (λ h. absurd (clash (sym (no_kind (kind_at bs p) h) ∙ (none→NodePassed bs n p e).kind_is))) (lt_or_ge (kind_at bs p) 31)
  where
    clash : {k : Kind} → none ≡ some k → ⊥
    clash q = let z : ◌≡◌ {A = ℕ} 0 1 = cc in omega arith

pub checked : (bs : List ℕ) → check_fault bs ≡ none → Passed bs
unfolding record_size
checked bs e =
    let p = Answers.check_fault≡none→Passed bs e in
    let s = Answers.Passed→SectionsOrdered bs p in
    record {
      some_record = omega (arith, p.whole_records, p.some_record);
      whole = omega (arith, p.whole_records);
      short = p.few_bytes;
      few_arrays = p.few_arrays;
      inside = omega (arith, s);
      known_kinds = λ n h. known_kind bs n (nodes_at bs + n) (p.nodes_passed n h);
    }
