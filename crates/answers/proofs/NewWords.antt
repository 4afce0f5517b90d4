-- What the records of a translation read as: every number written has 32 bits, so each is read back.
use mathlib.Core.Path.{refl}
use Prim.Native.Nat.{ℕ, suc, ◌+◌, ◌≤◌, ◌<◌}
use native.Mathlib.Omega.{arith}
use mathlib.Core.List.{List, []}
use mathlib.Core.Option.{some-injective}
use lib.Dec.{T, leb→le}
use lib.IntN.{ℤ, pos, negsuc}
use lib.ListN.{length, get_or, take}
use lib.Seq.{length-take-le}
use Rattle.numbers.specs.Limits.{limit}
use Rattle.numbers.specs.Whole.{within_limit}
use Rattle.language.specs.Syntax.{constant, Declarations}
use Rattle.language.specs.Readings.{Reading}
use Rattle.language.specs.Tables.{Row, Tree, whole, tree_at, fill, trees}
use Rattle.language.specs.Meaning.{value_i}
use Rattle.rules.specs.TotalRows.{HasValue, first_of, new_rows}
use Rattle.rules.specs.Soundness.{WellFormed}
use Rattle.rules.proofs.Every.{All-get_d}
use Rattle.rules.proofs.Nodes.{WellFormed→tree-at, RowsFit-at}
use Rattle.rules.proofs.Translation.{WellFormed-new_rows}
use Rattle.rules.proofs.TotalRows.{rows-total}
use Rattle.rules.proofs.LowEnds.{low_setting, low_assignment, low_ends_fit}
use Rattle.table.specs.Records.{HD, ND, CN}
use Rattle.table.proofs.Words.{InWord}
use Rattle.table.proofs.ReadBack.{RecordIs, record_bytes-RecordIs, Alike→RecordIs}
use Rattle.answers.specs.Sections.{nodes_at, declarations, rows, node_trees, constraints}
use Rattle.answers.specs.Answers.{translated, new_count, translation}
use Rattle.answers.proofs.Declared.{length-variables, length-slots, length-arrays}
use Rattle.answers.proofs.Passed.{few_records}
use Rattle.answers.proofs.NewConstraints.{P_node}
use Rattle.answers.proofs.NewRecords.{length-translation, record_count-translation, header-alike, node_alike, constraint-alike}
use Rattle.answers.proofs.RowRecords.{number_of, x_of, y_of, node_bytes-is}
use Rattle.answers.proofs.RowWords.{Countable, ConstantInWord, RowFits→InWord}
use Rattle.answers.proofs.Translatable.{Translatable, Passed→domains}

-- A number within the limit has 32 bits.
within_limit→InWord : (z : ℤ) → T (within_limit z) → InWord z
unfolding within_limit
within_limit→InWord (pos n) t = omega (arith, leb→le n limit t)
within_limit→InWord (negsuc n) t = omega (arith, leb→le (suc n) limit t)

module _ (bs : List ℕ) (ρ : Reading) where
  -- the declarations of both tables
  abbrev Γ : Declarations
  Γ = declarations bs

  -- its rows
  abbrev new_table : List Row
  new_table = new_rows ρ Γ (rows bs)

  module _ (h : Translatable bs ρ) where
    -- The new table is well formed.
    wf : WellFormed Γ new_table
    wf = WellFormed-new_rows ρ Γ (rows bs) h.passed.well_formed

    -- ---- constants

    -- A constant of the new table has a value within the limit, as every node has.
    HasValue→InWord : (ts : List Tree) (r : Row) → HasValue ρ Γ (low_assignment Γ) (low_setting Γ) (fill ts r) → ConstantInWord r
    unfolding fill value_i
    HasValue→InWord ts r v z e =
        let w : HasValue ρ Γ (low_assignment Γ) (low_setting Γ) (whole (constant z)) = rw e at v in
        within_limit→InWord z (rw (some-injective z w.0 w.1) w.2)

    -- So every constant of the new table has 32 bits.
    constants_in_word : (i : ℕ) (d : Row) → i < length new_table → ConstantInWord (get_or new_table i d)
    unfolding tree_at value_i within_limit node_trees
    constants_in_word i d l =
        let met = rows-total ρ Γ (rows bs) h.passed.well_formed h.bounded (low_assignment Γ) (low_setting Γ) (low_ends_fit Γ (Passed→domains bs h.passed)) ρ in
        let value : HasValue ρ Γ (low_assignment Γ) (low_setting Γ) (tree_at (trees new_table) i) =
        All-get_d (HasValue ρ Γ (low_assignment Γ) (low_setting Γ)) (trees new_table) _ met.values (pos 0, refl, tt) i in
        HasValue→InWord (trees new_table) (get_or new_table i d) (rw (WellFormed→tree-at wf i d l) at value)

    -- ---- how many

    -- The new table has not too many records,
    pub few-new-records : new_count bs ρ ≤ 5_000
    few-new-records =
        rw (record_count-translation bs ρ h.passed) at (few_records (translation bs ρ) (rw (length-translation bs ρ h.passed) h.few_bytes))

    -- and what its rows name can be counted in 31 bits.
    countable : (i : ℕ) → i < length new_table → Countable Γ (take i new_table)
    unfolding new_count translated
    countable i l =
        record {
          variables = rw length-variables (omega (arith, h.passed.few_variables));
          slots = rw length-slots (omega (arith, h.passed.few_slots));
          arrays = rw length-arrays (omega (arith, h.passed.few_arrays));
          nodes = rw (length-take-le i new_table (omega arith)) (omega (arith, few-new-records));
        }

    -- ---- the records

    -- The header has the new count.
    pub header_is : RecordIs (translation bs ρ) 0 HD 1 (pos (new_count bs ρ)) (pos 0)
    header_is = Alike→RecordIs (header-alike bs ρ h.passed) (record_bytes-RecordIs HD 1 (pos (new_count bs ρ)) (pos 0) (omega (arith, few-new-records)) (omega arith))

    -- Each node is the record of its row.
    pub node-is : (i : ℕ) (d : Row) → i < length (translated bs ρ).rows
        → (let r : Row = get_or (translated bs ρ).rows i d in RecordIs (translation bs ρ) (nodes_at bs + i) ND (number_of r) (x_of r) (y_of r))
    unfolding translated
    node-is i d l =
        let r : Row = get_or new_table i d in
        let w = RowFits→InWord Γ (take i new_table) (countable i l) r (RowsFit-at Γ [] new_table wf.rows_fit i d l) (constants_in_word i d l) in
        Alike→RecordIs (node_alike bs ρ h.passed i d l) (rw (node_bytes-is r) (record_bytes-RecordIs ND (number_of r) (x_of r) (y_of r) w.0 w.1))

    -- Each constraint names P of its node.
    pub constraint-is : (i : ℕ) → i < length (constraints bs)
        → RecordIs (translation bs ρ) (nodes_at bs + length (translated bs ρ).rows + i) CN 0 (pos (get_or (translated bs ρ).firsts (get_or (constraints bs) i 0) 0)) (pos 0)
    unfolding translated new_count
    constraint-is i l =
        let k : ℕ = get_or (constraints bs) i 0 in
        Alike→RecordIs (constraint-alike bs ρ h.passed i 0 l)
        (record_bytes-RecordIs CN 0 (pos (first_of ρ Γ (rows bs) k)) (pos 0) (omega (arith, (P_node bs h.passed i l ρ).earlier, few-new-records)) (omega arith))
