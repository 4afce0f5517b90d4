-- The records of the new nodes, as cells.
use mathlib.Core.Path.{◌≡◌, refl, sym, ap, ◌∙◌}
use Prim.Native.Nat.{ℕ, ◌+◌, ◌*◌}
use mathlib.Core.List.{List, [], ◌∷◌, ◌++◌, map}
use lib.ListN.{length, length-map}
use lib.Seq.{sets}
use Rattle.language.specs.Readings.{Reading}
use Rattle.language.specs.Tables.{Row, constant_row, variable_row, slot_row, arith_row, divide_row, negate_row, bool_to_int_row, lookup_row, sum_row, truth_row, variable_b_row, lookup_b_row, connect_row, negation_row, compare_row, quantify_row}
use Rattle.table.specs.Records.{record_size, record_bytes, bits_of}
use Rattle.table.specs.Kinds.{node_bytes}
use Rattle.answers.specs.Answers.{new_nodes}
use Rattle.translator.specs.Cells.{Cell, record_of, cell_bytes, cells_bytes, fields}
use Rattle.translator.proofs.Cells.{cells_bytes-++, length-cells_bytes}
use Rattle.numbers.proofs.Lists.{sets-++}

-- A row's record is its cell's.
row-bytes : (r : Row) → node_bytes r ≡ cell_bytes (fields r)
unfolding node_bytes cell_bytes fields record_bytes record_of bits_of
row-bytes (constant_row z) = refl
row-bytes (truth_row b) = refl
row-bytes (variable_row v) = refl
row-bytes (variable_b_row v) = refl
row-bytes (slot_row s) = refl
row-bytes (arith_row op a b) = refl
row-bytes (divide_row op a b) = refl
row-bytes (negate_row a) = refl
row-bytes (bool_to_int_row a) = refl
row-bytes (lookup_row A i) = refl
row-bytes (lookup_b_row A i) = refl
row-bytes (sum_row s a) = refl
row-bytes (connect_row c a b) = refl
row-bytes (negation_row a) = refl
row-bytes (compare_row c a b) = refl
row-bytes (quantify_row q s a) = refl

-- So the new nodes are their cells' records,
pub new_nodes-cells : (bs : List ℕ) (ρ : Reading) (rs : List Row) → new_nodes bs ρ rs ≡ cells_bytes (map fields rs)
unfolding new_nodes cells_bytes
new_nodes-cells bs ρ [] = refl
new_nodes-cells bs ρ (r ∷ rs) = rw (row-bytes r, new_nodes-cells bs ρ rs)

-- and as long as these.
pub length-new_nodes : (bs : List ℕ) (ρ : Reading) (rs : List Row) → length (new_nodes bs ρ rs) ≡ record_size * length rs
length-new_nodes bs ρ rs = ap length (new_nodes-cells bs ρ rs) ∙ length-cells_bytes (map fields rs) ∙ ap (λ n. record_size * n) (length-map rs fields)

-- Records behind records.
pub stored : (o : List ℕ) (i : ℕ) (cs ds : List Cell) {at : ℕ} → at ≡ i + record_size * length cs → sets (sets o i (cells_bytes cs)) at (cells_bytes ds) ≡ sets o i (cells_bytes (cs ++ ds))
stored o i cs ds {at} e =
    ap (λ k. sets (sets o i (cells_bytes cs)) k (cells_bytes ds)) (e ∙ ap (λ l. i + l) (sym (length-cells_bytes cs)))
    ∙ sym (sets-++ o i (cells_bytes cs) (cells_bytes ds)) ∙ ap (sets o i) (sym (cells_bytes-++ cs ds))
