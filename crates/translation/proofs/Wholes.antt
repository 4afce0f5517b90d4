-- The new table's parts, written one behind the other, are the new table.
use mathlib.Core.Path.{◌≡◌, sym, ap, ◌∙◌}
use Prim.Native.Nat.{ℕ, ◌+◌, ◌-◌, ◌*◌, ◌≤◌}
use native.Mathlib.Nat.{zero-add}
use native.Mathlib.Omega.{arith}
use mathlib.Core.List.{List, ◌++◌, append_assoc}
use mathlib.Core.Option.{none}
use lib.IntN.{pos}
use lib.ListN.{length, take, drop, length-append, length-drop}
use lib.Seq.{sets, sets-eq, length-take-le}
use Rattle.language.specs.Readings.{Reading}
use Rattle.table.specs.Records.{HD, record_size, record_count, record_bytes, word_bytes, bits_of, first_letter, second_letter}
use Rattle.answers.specs.Sections.{nodes_at, constraints}
use Rattle.answers.specs.Check.{check_fault}
use Rattle.answers.specs.Answers.{translated, new_nodes, new_constraints, new_count, translation}
use Rattle.answers.proofs.Passed as Answers
use Rattle.answers.proofs.NewRecords.{length-translation}
use Rattle.layout.specs.Passed.{Passed}
use Rattle.layout.proofs.Order.{ordered}
use Rattle.layout.proofs.Tables.{passed-in, laid-in}
use Rattle.layout.specs.declared.checked_table.CheckedTable.{CheckedTable}
use Rattle.table.specs.Marks.{mark_of}
use Rattle.table.specs.declared.Mark.TheVariants.{Head}
use Rattle.translator.specs.Cells.{record_of, bytes_of}
use Rattle.numbers.proofs.Lists.{sets-++}
use Rattle.translation.specs.Fronts.{front}

-- The records before the nodes: HD is one of them, and they are within the table.
pub record FrontPlace (t : CheckedTable) : Type 0 where
  pub head : 12 ≤ 12 * t.at.nodes
  pub inside : 12 * t.at.nodes ≤ length t.bytes.now
  pub nodes : t.at.nodes ≡ nodes_at t.bytes.now
  pub short : 12 * t.at.nodes ≤ 60_000

pub front-place : (t : CheckedTable) → FrontPlace t
unfolding record_size record_count
front-place t =
    let p = passed-in t in
    let l = laid-in t in
    record { head = omega (arith, l, l.order); inside = omega (arith, l, l.order, p.inside, p.whole); nodes = l.nodes; short = omega (arith, l, l.order, p.inside, p.whole, p.short) }

before-nodes : (table : List ℕ) → Passed table → record_size ≤ record_size * nodes_at table
unfolding record_size
before-nodes table p = let o = ordered table p in omega (arith, o)

nodes-within : (table : List ℕ) → Passed table → record_size * nodes_at table ≤ length table
unfolding record_size record_count
nodes-within table p = omega (arith, p.inside, p.whole)

-- HD and then the declarations.
pub front-stores : (table : List ℕ) (records : ℕ) (out : List ℕ) {a b : List ℕ} → a ≡ sets out 0 (bytes_of (record { mark = Head; kind = 1; x = records; y = 0 }))
    → b ≡ sets a record_size (take (record_size * nodes_at table - record_size) (drop record_size table)) → b ≡ sets out 0 (front table records)
unfolding front bytes_of record_of record_bytes word_bytes bits_of mark_of first_letter second_letter record_size
front-stores table records out e f = f ∙ rw e (sym (sets-++ out 0 (record_of 72 68 1 records 0) (take (record_size * nodes_at table - record_size) (drop record_size table))))

length_front : (table : List ℕ) (records : ℕ) → Passed table → length (front table records) ≡ record_size * nodes_at table
unfolding front record_bytes word_bytes record_size
length_front table records p =
    length-append (record_bytes HD 1 (pos records) (pos 0)) (take (record_size * nodes_at table - record_size) (drop record_size table))
    ∙ omega (arith, before-nodes table p, length-take-le (record_size * nodes_at table - record_size) (drop record_size table) (rw length-drop (omega (arith, nodes-within table p))))

module _ (table : List ℕ) (ρ : Reading) (checked : check_fault table ≡ none) where
  pub length-new : length (translation table ρ) ≡ record_size * new_count table ρ
  length-new = length-translation table ρ (Answers.check_fault≡none→Passed table checked)

  -- The nodes' place is within the new table.
  pub nodes-within-new : record_size * nodes_at table ≤ record_size * new_count table ρ
  unfolding new_count record_size
  nodes-within-new = omega arith

  abbrev behind : List ℕ
  behind = new_nodes table ρ (translated table ρ).rows ++ new_constraints table ρ (constraints table)

  parts : front table (new_count table ρ) ++ behind ≡ translation table ρ
  unfolding front translation
  parts = simp append_assoc

  -- The declarations, and the nodes and constraints behind them.
  pub whole-stores : Passed table → (records : ℕ) (out : List ℕ) {a b : List ℕ} → records ≡ new_count table ρ → record_size * new_count table ρ ≤ length out
      → a ≡ sets out 0 (front table records)
      → b ≡ sets a (record_size * nodes_at table) behind
      → b ≡ translation table ρ ++ drop (length (translation table ρ)) out
  whole-stores p records out {a} {b} c room e f =
      let new : List ℕ = translation table ρ in
      let place : record_size * nodes_at table ≡ 0 + length (front table (new_count table ρ)) = omega (arith, length_front table (new_count table ρ) p) in
      let joined : b ≡ sets out 0 new =
      f ∙ ap (λ (l : List ℕ). sets l (record_size * nodes_at table) behind) (e ∙ ap (λ n. sets out 0 (front table n)) c)
      ∙ ap (λ k. sets (sets out 0 (front table (new_count table ρ))) k behind) place
      ∙ sym (sets-++ out 0 (front table (new_count table ρ)) behind) ∙ ap (sets out 0) parts in
      joined ∙ sets-eq new out 0 (omega (arith, length-new)) ∙ ap (λ k. new ++ drop k out) (zero-add (length new))
