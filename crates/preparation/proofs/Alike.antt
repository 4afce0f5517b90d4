-- The records of a table stand unchanged in its padded bytes, and so does what they declare.
use mathlib.Core.Path.{◌≡◌}
use Prim.Native.Nat.{ℕ, suc, ◌+◌, ◌-◌, ◌*◌, ◌≤◌, ◌<◌}
use native.Mathlib.Omega.{arith}
use mathlib.Core.List.{List}
use lib.IntN.{nat_abs}
use lib.ListN.{length, replicate, length-append, length-replicate}
use Rattle.numbers.specs.Limits.{most_bytes}
use Rattle.table.specs.Records.{record_size, record_count, y_at}
use Rattle.table.proofs.Alike.{Alike, Alike-left, kind_at-alike, x_at-alike, y_at-alike}
use Rattle.answers.specs.Sections.{element_of, array_of, behind_array, row_of}
use Rattle.answers.proofs.Listed.{listed-agree}
use Rattle.answers.proofs.SameFaults.{element_of-alike}
use Rattle.preparation.specs.Prepared.{padded}

-- A table that is padded fills the array.
pub padded-sized : (bs : List ℕ) → length bs ≤ most_bytes → length (padded bs) ≡ most_bytes
unfolding padded
padded-sized bs h = omega (arith, length-append bs (replicate (most_bytes - length bs) 0), length-replicate {A = ℕ} (most_bytes - length bs) 0)

module _ (bs : List ℕ) (records : length bs ≡ record_size * record_count bs) where
  -- A record of the table,
  pub padded-alike : (k : ℕ) → k < record_count bs → Alike (padded bs) k bs k
  unfolding padded record_size
  padded-alike k h = Alike-left bs (replicate (most_bytes - length bs) 0) k (omega (arith, records))

  -- a node's row,
  pub row_of-padded : (k : ℕ) → k < record_count bs → row_of (padded bs) k ≡ row_of bs k
  unfolding row_of
  row_of-padded k h = let a = padded-alike k h in rw (kind_at-alike a, x_at-alike a, y_at-alike a)

  -- the record behind an array's elements,
  pub behind_array-padded : (k : ℕ) → k < record_count bs → behind_array (padded bs) k ≡ behind_array bs k
  unfolding behind_array
  behind_array-padded k h = rw (y_at-alike (padded-alike k h))

  -- and an array with its elements.
  pub array_of-padded : (k : ℕ) → behind_array bs k ≤ record_count bs → array_of (padded bs) k ≡ array_of bs k
  unfolding array_of behind_array
  array_of-padded k h =
      let a = padded-alike k (omega arith) in
      rw (
        kind_at-alike a,
        x_at-alike a,
        y_at-alike a,
        listed-agree (nat_abs (y_at bs k)) (λ i. element_of (padded bs) (suc k + i)) (λ i. element_of bs (suc k + i)) (λ i l. element_of-alike (padded-alike (suc k + i) (omega arith))),
      )
