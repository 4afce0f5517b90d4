-- Where the records of a translation stand: the header, the copied declarations, the nodes, the constraints.
use mathlib.Core.Path.{◌≡◌, refl, sym, ap, ◌∙◌}
use Prim.Native.Nat.{ℕ, suc, ◌+◌, ◌*◌, ◌-◌, ◌≤◌, ◌<◌}
use native.Mathlib.Nat.{le_refl, add_assoc, mul-one, mul-suc, mul-le-mul_left, mul-div_right}
use native.Mathlib.Omega.{arith}
use mathlib.Core.List.{List, [], ◌∷◌, ◌++◌, append_assoc}
use lib.IntN.{pos}
use lib.ListN.{length, get_or, take, drop, length-append, length-drop}
use lib.Seq.{length-take-le}
use Rattle.language.specs.Readings.{Reading}
use Rattle.language.specs.Tables.{Row}
use Rattle.table.specs.Records.{HD, ND, CN, record_size, record_count, record_bytes}
use Rattle.table.specs.Kinds.{node_bytes}
use Rattle.table.proofs.Alike.{Alike, Alike-trans, Alike-left, Alike-right, Alike-take, Alike-drop}
use Rattle.table.proofs.Marks.{0<record_size}
use Rattle.table.proofs.ReadBack.{length-record_bytes, joined, length-joined, joined-alike}
use Rattle.answers.specs.Sections.{nodes_at, constraints}
use Rattle.answers.specs.Answers.{translated, new_nodes, new_constraints, new_count, translation}
use Rattle.answers.proofs.Passed.{Passed, Passed→SectionsOrdered}
use Rattle.answers.proofs.RowRecords.{number_of, x_of, y_of, node_bytes-is}

-- A node record has its size.
length-node_bytes : (r : Row) → length (node_bytes r) ≡ record_size
length-node_bytes r = rw node_bytes-is (length-record_bytes ND (number_of r) (x_of r) (y_of r))

module _ (bs : List ℕ) (ρ : Reading) where
  -- the record that a constraint becomes: "Each CN becomes P of its node."
  abbrev new_constraint : ℕ → List ℕ
  new_constraint k = record_bytes CN 0 (pos (get_or (translated bs ρ).firsts k 0)) (pos 0)

  -- It has its size.
  length-new_constraint : (k : ℕ) → length (new_constraint k) ≡ record_size
  length-new_constraint k = length-record_bytes CN 0 (pos (get_or (translated bs ρ).firsts k 0)) (pos 0)

  -- The new nodes are their records, joined,
  new_nodes-joined : (rs : List Row) → new_nodes bs ρ rs ≡ joined node_bytes rs
  unfolding new_nodes
  new_nodes-joined [] = refl
  new_nodes-joined (r ∷ rs) = ap (λ l. node_bytes r ++ l) (new_nodes-joined rs)

  -- and so are the new constraints.
  new_constraints-joined : (ks : List ℕ) → new_constraints bs ρ ks ≡ joined new_constraint ks
  unfolding new_constraints
  new_constraints-joined [] = refl
  new_constraints-joined (k ∷ ks) = ap (λ l. new_constraint k ++ l) (new_constraints-joined ks)

  -- ---- the parts

  -- the header,
  abbrev header : List ℕ
  header = record_bytes HD 1 (pos (new_count bs ρ)) (pos 0)

  -- the copied declarations,
  abbrev copied : List ℕ
  copied = take (record_size * nodes_at bs - record_size) (drop record_size bs)

  -- the new nodes,
  abbrev nodes : List ℕ
  nodes = joined node_bytes (translated bs ρ).rows

  -- and the new constraints
  abbrev finish : List ℕ
  finish = joined new_constraint (constraints bs)

  -- The translation is these, one behind the other.
  translation-parts : translation bs ρ ≡ (header ++ copied) ++ (nodes ++ finish)
  unfolding translation
  translation-parts = rw (new_nodes-joined, new_constraints-joined, append_assoc)

  -- Their sizes: the header's,
  length-header : length header ≡ record_size
  length-header = length-record_bytes HD 1 (pos (new_count bs ρ)) (pos 0)

  -- the nodes',
  length-nodes : length nodes ≡ record_size * length (translated bs ρ).rows
  length-nodes = length-joined node_bytes length-node_bytes (translated bs ρ).rows

  -- the constraints'.
  length-finish : length finish ≡ record_size * length (constraints bs)
  length-finish = length-joined new_constraint length-new_constraint (constraints bs)

  module _ (p : Passed bs) where
    -- There is a record before the nodes,
    size-before-nodes : record_size ≤ record_size * nodes_at bs
    size-before-nodes =
        let o = Passed→SectionsOrdered bs p in
        let some_record : 1 ≤ nodes_at bs = omega (arith, o.slots_after, o.arrays_after, o.nodes_after) in
        rw mul-one at (mul-le-mul_left record_size some_record)

    -- and they begin within the table.
    size-within : record_size * nodes_at bs ≤ length bs
    size-within =
        let o = Passed→SectionsOrdered bs p in
        rw p.whole_records (mul-le-mul_left record_size (omega (arith, o.constraints_after, o.records_counted)))

    -- So the copied declarations have the size of those records but the header.
    length-copied : length copied ≡ record_size * nodes_at bs - record_size
    length-copied = length-take-le (record_size * nodes_at bs - record_size) (drop record_size bs) (rw length-drop (omega (arith, size-within)))

    -- Header and declarations have the size of the records before the nodes.
    length_front : length (header ++ copied) ≡ record_size * nodes_at bs
    length_front = length-append header copied ∙ rw (length-header, length-copied) (omega (arith, size-before-nodes))

    -- ---- the new table

    -- It is as long as its count says,
    pub length-translation : length (translation bs ρ) ≡ record_size * new_count bs ρ
    unfolding new_count
    length-translation =
        rw (translation-parts, length-append (header ++ copied) (nodes ++ finish), length-append nodes finish, length_front, length-nodes, length-finish)
        (omega arith)

    -- and has so many records.
    pub record_count-translation : record_count (translation bs ρ) ≡ new_count bs ρ
    unfolding record_count
    record_count-translation = rw length-translation (mul-div_right (new_count bs ρ) 0<record_size)

    -- The header stands first,
    pub header-alike : Alike (translation bs ρ) 0 header 0
    header-alike =
        rw translation-parts
        (Alike-trans (Alike-left (header ++ copied) (nodes ++ finish) 0 (rw (length_front, mul-one) size-before-nodes))
        (Alike-left header copied 0 (rw (length-header, mul-one) (le_refl record_size))))

    -- the records behind it up to the nodes are copied,
    copied-alike-suc : (k : ℕ) → suc k < nodes_at bs → Alike (translation bs ρ) (1 + k) bs (1 + k)
    copied-alike-suc k h =
        let two-more : record_size * suc k + record_size ≤ record_size * nodes_at bs = rw (mul-suc record_size (suc k)) at (mul-le-mul_left record_size h) in
        rw translation-parts
        (Alike-trans (Alike-left (header ++ copied) (nodes ++ finish) (1 + k) (rw length_front (mul-le-mul_left record_size (omega arith))))
        (Alike-trans (Alike-right header copied 1 k (length-header ∙ sym (mul-one record_size)))
        (Alike-trans (Alike-take (drop record_size bs) (record_size * nodes_at bs - record_size) k (omega arith))
        (Alike-drop bs 1 record_size k (sym (mul-one record_size))))))

    -- so the declarations stand at the same places,
    pub copied-alike : (k : ℕ) → 1 ≤ k → k < nodes_at bs → Alike (translation bs ρ) k bs k
    copied-alike k l h = let e : 1 + (k - 1) ≡ k = omega arith in rw e at (copied-alike-suc (k - 1) (omega arith))

    -- the nodes begin where they began,
    pub node_alike : (i : ℕ) (d : Row) → i < length (translated bs ρ).rows
        → Alike (translation bs ρ) (nodes_at bs + i) (node_bytes (get_or (translated bs ρ).rows i d)) 0
    node_alike i d h =
        rw translation-parts
        (Alike-trans (Alike-right (header ++ copied) (nodes ++ finish) (nodes_at bs) i length_front)
        (Alike-trans (Alike-left nodes finish i (rw length-nodes (mul-le-mul_left record_size h)))
        (joined-alike node_bytes length-node_bytes (translated bs ρ).rows i d h)))

    -- and the constraints stand behind them.
    pub constraint-alike : (i : ℕ) (d : ℕ) → i < length (constraints bs)
        → Alike (translation bs ρ) (nodes_at bs + length (translated bs ρ).rows + i) (new_constraint (get_or (constraints bs) i d)) 0
    constraint-alike i d h =
        let n : ℕ = length (translated bs ρ).rows in
        rw (translation-parts, add_assoc (nodes_at bs) n i)
        (Alike-trans (Alike-right (header ++ copied) (nodes ++ finish) (nodes_at bs) (n + i) length_front)
        (Alike-trans (Alike-right nodes finish n i length-nodes)
        (joined-alike new_constraint length-new_constraint (constraints bs) i d h)))
