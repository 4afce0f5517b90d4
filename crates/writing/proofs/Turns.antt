-- What holds at each turn of the loop over the nodes.
use mathlib.Core.Path.{◌≡◌, refl}
use Prim.Native.Nat.{ℕ, ◌+◌, ◌*◌, ◌≤◌, ◌<◌}
use native.Mathlib.Omega.{arith}
use mathlib.Core.List.{List}
use lib.ListN.{length}
use Rattle.numbers.specs.Limits.{most_bytes}
use Rattle.language.specs.Readings.{Reading}
use Rattle.table.specs.Records.{record_size, kind_at}
use Rattle.answers.specs.Sections.{nodes_at, node_count, constraint_count, constraints}
use Rattle.answers.specs.Answers.{new_count}
use Rattle.layout.specs.declared.checked_table.CheckedTable.{CheckedTable}
use Rattle.layout.proofs.Tables.{laid-in}
use Rattle.translator.specs.Plans.{plan_at}
use Rattle.translator.proofs.States.{new-count}
use Rattle.writing.proofs.ConstraintRecords.{length-constraints}
use Rattle.writing.proofs.Known.{KnownNode, known-node}
use Rattle.writing.proofs.Standing.{Standing, node-fits}

-- Node n is known, its record stands in the table, and its rows have room.
pub record Turn (bs : List ℕ) (ρ : Reading) (room nodes next n : ℕ) : Type 0 where
  pub nodes_is : nodes ≡ nodes_at bs
  pub few : nodes + n < 5_000
  pub known : KnownNode bs (nodes_at bs + n)
  pub fits : 12 * (nodes + next) + record_size * (plan_at ρ (kind_at bs (nodes_at bs + n))).count ≤ room
  pub small : 12 * (nodes + (next + (plan_at ρ (kind_at bs (nodes_at bs + n))).count)) ≤ 60_000

module _ (t : CheckedTable) (ρ : Reading) {room : ℕ} (r : record_size * new_count t.bytes.now ρ ≤ room) (m : record_size * new_count t.bytes.now ρ ≤ most_bytes) {o out firsts seconds : List ℕ} {next n : ℕ} (w : Standing t.bytes.now ρ o out firsts seconds next n) where
  -- A turn for each node.
  pub turn : n < node_count t.bytes.now → Turn t.bytes.now ρ room t.at.nodes next n
  unfolding node_count record_size
  turn h =
      let bs = t.bytes.now in
      let l = laid-in t in
      let k = known-node bs t.sound n refl h in
      let f = node-fits bs ρ n refl k.known_kind (omega (arith, l)) in
      record {
        nodes_is = l.nodes;
        few = omega (arith, l, l.order);
        known = k;
        fits = omega (arith, l, f, w.next_is);
        small = omega (arith, l, f, w.next_is);
      }

  -- After the last node there is room for the constraints.
  pub constraints-fit : n ≡ node_count t.bytes.now → record_size * (t.at.nodes + next + length (constraints t.bytes.now)) ≤ room
  unfolding record_size constraint_count
  constraints-fit h =
      let l = laid-in t in
      omega (arith, l, w.next_is, length-constraints t.bytes.now, new-count t.bytes.now ρ n h)

  -- The next number is small.
  pub next_small : n ≡ node_count t.bytes.now → 12 * (t.at.nodes + next) ≤ 60_000
  unfolding record_size
  next_small h =
      let l = laid-in t in
      omega (arith, l, w.next_is, new-count t.bytes.now ρ n h)
