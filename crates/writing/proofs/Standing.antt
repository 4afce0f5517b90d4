-- What stands after the first n nodes: their records, the number of the next one, and the positions of both companions of each.
use mathlib.Core.Path.{◌≡◌, refl, sym, ap, ◌∙◌}
use Prim.Native.Nat.{ℕ, zero, suc, ◌+◌, ◌-◌, ◌*◌, ◌≤◌, ◌<◌}
use native.Mathlib.Omega.{arith}
use mathlib.Core.List.{List, [], ◌∷◌, ◌++◌, map}
use lib.IntN.{nat_abs}
use lib.ListN.{length, get_or, set, replicate, length-append, length-map}
use lib.Seq.{sets, length-sets}
use Rattle.language.specs.Readings.{Reading}
use Rattle.rules.specs.Writing.{Translated, write_rule, nothing_yet, rule_after, append, step}
use Rattle.table.specs.Records.{record_size, kind_at, x_at, y_at}
use Rattle.answers.specs.Sections.{nodes_at, node_count, constraint_count, row_of, rows, constraints, declarations}
use Rattle.answers.specs.Answers.{translated, new_nodes, new_constraints, new_count}
use Rattle.translator.specs.declared.tables.Row as Rules
use Rattle.translator.specs.Cells.{cells_bytes, fields, number_of, place, resolve}
use Rattle.translator.specs.Plans.{plan_at, plan_rows}
use Rattle.translator.specs.Words.{node_numbers, node_words}
use Rattle.translator.proofs.Cells.{map-++}
use Rattle.translator.proofs.States.{state, state-zero, state-suc, node-writes, length-state-suc, new-count}
use Rattle.numbers.proofs.Lists.{sets-++}
use Rattle.writing.specs.Constraints.{constraints_over}
use Rattle.writing.proofs.ConstraintRecords.{new_constraints-over}
use Rattle.writing.proofs.NodeRecords.{new_nodes-cells, length-new_nodes, stored}
use Rattle.writing.proofs.Kept.{Kept, no-positions, one-position-more}

module _ (bs : List ℕ) (ρ : Reading) where
  -- What one more node adds.
  record Adds (n k : ℕ) (words : List ℕ) : Type 0 where
    rows : map fields (state bs ρ (n + 1)).rows ≡ map fields (state bs ρ n).rows ++ map (resolve words (length (state bs ρ n).rows) k) (plan_rows ρ k)
    firsts : (state bs ρ (n + 1)).firsts ≡ (state bs ρ n).firsts ++ (place words (length (state bs ρ n).rows) (number_of (plan_at ρ k).first) ∷ [])
    seconds : (state bs ρ (n + 1)).seconds ≡ (state bs ρ n).seconds ++ (place words (length (state bs ρ n).rows) (number_of (plan_at ρ k).second) ∷ [])

  -- It adds its plan's rows, with its words in place.
  node-adds : (n : ℕ) {p : ℕ} → p ≡ nodes_at bs + n → kind_at bs p < 31 → Adds n (kind_at bs p) (node_words (declarations bs) (state bs ρ n).firsts (state bs ρ n).seconds (kind_at bs p) (x_at bs p) (y_at bs p))
  unfolding step append rule_after row_of
  node-adds n {p} e h =
      let w = node-writes bs ρ n e h in
      let s = state-suc bs ρ n in
      record {
        rows = ap (λ (t : Translated). map fields t.rows) s ∙ rw (← e) (map-++ fields (state bs ρ n).rows (write_rule (rule_after ρ (declarations bs) (state bs ρ n) (row_of bs p)) (length (state bs ρ n).rows)).rows ∙ ap (λ l. map fields (state bs ρ n).rows ++ l) w.rows);
        firsts = ap (λ (t : Translated). t.firsts) s ∙ rw (← e) (ap (λ v. (state bs ρ n).firsts ++ (v ∷ [])) w.first);
        seconds = ap (λ (t : Translated). t.seconds) s ∙ rw (← e) (ap (λ v. (state bs ρ n).seconds ++ (v ∷ [])) w.second);
      }

  -- The rows grow from node to node.
  rows_grow : (n d : ℕ) → length (state bs ρ n).rows ≤ length (state bs ρ (n + d)).rows
  unfolding step append
  rows_grow n zero = let z : n + 0 ≡ n = omega arith in rw z (omega arith)
  rows_grow n (suc d) =
      let z : n + suc d ≡ n + d + 1 = omega arith in
      rw (z, state-suc bs ρ (n + d), length-append) (omega (arith, rows_grow n d))

  -- A node's rows end within the new table, before the constraints.
  pub node-fits : (n : ℕ) {p : ℕ} → p ≡ nodes_at bs + n → kind_at bs p < 31 → n < node_count bs → nodes_at bs + constraint_count bs + (length (state bs ρ n).rows + (plan_at ρ (kind_at bs p)).count) ≤ new_count bs ρ
  node-fits n {p} e h l =
      let z : n + 1 + (node_count bs - (n + 1)) ≡ node_count bs = omega arith in
      let g : length (state bs ρ (n + 1)).rows ≤ length (state bs ρ (node_count bs)).rows = rw z at (rows_grow (n + 1) (node_count bs - (n + 1))) in
      omega (arith, length-state-suc bs ρ n e h, new-count bs ρ (node_count bs) refl)

  -- All nodes make the translation.
  state-all : (n : ℕ) → n ≡ node_count bs → state bs ρ n ≡ translated bs ρ
  unfolding state translated rows
  state-all n e = rw e

  -- What stands after n nodes, in bytes that were o before.
  pub record Standing (o out firsts seconds : List ℕ) (next n : ℕ) : Type 0 where
    pub written : out ≡ sets o (record_size * nodes_at bs) (new_nodes bs ρ (state bs ρ n).rows)
    pub sized : length out ≡ length o
    pub next_is : next ≡ length (state bs ρ n).rows
    pub firsts_held : Kept (state bs ρ n).firsts firsts n
    pub seconds_held : Kept (state bs ρ n).seconds seconds n

  -- Nothing at first,
  pub standing-none : (o : List ℕ) {firsts seconds : List ℕ} → firsts ≡ replicate 5_000 0 → seconds ≡ replicate 5_000 0 → Standing o o firsts seconds 0 0
  unfolding nothing_yet new_nodes
  standing-none o {firsts} {seconds} e f =
      let z = state-zero bs ρ in
      record {
        written = rw z;
        sized = refl;
        next_is = rw z;
        firsts_held = rw z (no-positions e);
        seconds_held = rw z (no-positions f);
      }

  module _ {o out firsts seconds : List ℕ} {next n : ℕ} (w : Standing o out firsts seconds next n) where
    -- the words over the places are those over the positions
    same-words : (k p : ℕ) → node_words (declarations bs) firsts seconds k (x_at bs p) (y_at bs p) ≡ node_words (declarations bs) (state bs ρ n).firsts (state bs ρ n).seconds k (x_at bs p) (y_at bs p)
    unfolding node_words node_numbers
    same-words k p = rw (w.firsts_held.held (nat_abs (x_at bs p)), w.seconds_held.held (nat_abs (x_at bs p)), w.firsts_held.held (nat_abs (y_at bs p)), w.seconds_held.held (nat_abs (y_at bs p)))

    -- one node more at each turn.
    pub standing-more : {p kind base at count a b next' : ℕ} {words new : List ℕ} {rows : List Rules.Row} → p ≡ nodes_at bs + n → kind ≡ kind_at bs p → kind_at bs p < 31 → n < 5_000
        → words ≡ node_words (declarations bs) firsts seconds (kind_at bs p) (x_at bs p) (y_at bs p) → base ≡ next
        → count ≡ (plan_at ρ (kind_at bs p)).count → rows ≡ plan_rows ρ (kind_at bs p) → at ≡ record_size * (nodes_at bs + next)
        → new ≡ sets out at (cells_bytes (map (resolve words base kind) rows))
        → a ≡ place words base (number_of (plan_at ρ (kind_at bs p)).first) → b ≡ place words base (number_of (plan_at ρ (kind_at bs p)).second) → next' ≡ next + count
        → Standing o new (set firsts n a) (set seconds n b) next' (n + 1)
    unfolding record_size
    standing-more {p} {kind} {base} {at} {count} {a} {b} {next'} {words} {new} {rows} e ek h few ew eb ec er ea en first second more =
        let env = node_words (declarations bs) (state bs ρ n).firsts (state bs ρ n).seconds (kind_at bs p) (x_at bs p) (y_at bs p) in
        let s : words ≡ env = ew ∙ same-words (kind_at bs p) p in
        let adds = node-adds n e h in
        record {
          written = en ∙ rw (w.written, new_nodes-cells bs ρ (state bs ρ n).rows, s, eb, w.next_is, ek, er) (stored o (record_size * nodes_at bs) (map fields (state bs ρ n).rows) (map (resolve env (length (state bs ρ n).rows) (kind_at bs p)) (plan_rows ρ (kind_at bs p))) (omega (arith, w.next_is, length-map (state bs ρ n).rows fields)) ∙ ap (λ l. sets o (record_size * nodes_at bs) (cells_bytes l)) (sym adds.rows) ∙ ap (sets o (record_size * nodes_at bs)) (sym (new_nodes-cells bs ρ (state bs ρ (n + 1)).rows)));
          sized = ap length en ∙ length-sets out at (cells_bytes (map (resolve words base kind) rows)) ∙ w.sized;
          next_is = more ∙ rw (w.next_is, ec) (sym (length-state-suc bs ρ n e h));
          firsts_held = rw (adds.firsts, first, s, eb, w.next_is) (one-position-more w.firsts_held few (place env (length (state bs ρ n).rows) (number_of (plan_at ρ (kind_at bs p)).first)));
          seconds_held = rw (adds.seconds, second, s, eb, w.next_is) (one-position-more w.seconds_held few (place env (length (state bs ρ n).rows) (number_of (plan_at ρ (kind_at bs p)).second)));
        }

    -- Behind the last node come the constraints.
    pub standing-all : {at : ℕ} {new : List ℕ} → n ≡ node_count bs → at ≡ nodes_at bs + next
        → new ≡ sets out (record_size * at) (constraints_over firsts (constraints bs))
        → new ≡ sets o (record_size * nodes_at bs) (new_nodes bs ρ (translated bs ρ).rows ++ new_constraints bs ρ (constraints bs))
    unfolding record_size
    standing-all {at} {new} all ea en =
        let e : state bs ρ n ≡ translated bs ρ = state-all n all in
        let held : (k : ℕ) → get_or firsts k 0 ≡ get_or (translated bs ρ).firsts k 0 = λ k. w.firsts_held.held k ∙ ap (λ (t : Translated). get_or t.firsts k 0) e in
        let place_is : record_size * at ≡ record_size * nodes_at bs + length (new_nodes bs ρ (state bs ρ n).rows) = omega (arith, w.next_is, length-new_nodes bs ρ (state bs ρ n).rows) in
        en ∙ rw (w.written, new_constraints-over bs ρ firsts held (constraints bs), place_is) (sym (sets-++ o (record_size * nodes_at bs) (new_nodes bs ρ (state bs ρ n).rows) (new_constraints bs ρ (constraints bs))) ∙ rw e)
