-- A node record of the new table as its kind and two words, and a rule's row, which has references in their place.
-- Internal: a contract behind the public ones; no public promise cites it.
use Rattle.std.specs.Prelude.{ℕ, ◌+◌, ◌-◌, cond, List, [], ◌∷◌, ◌++◌, ltb, get_or, unwrap_or}
use Rattle.language.specs.Tables.{Row, constant_row, variable_row, slot_row, arith_row, divide_row, negate_row, bool_to_int_row, lookup_row, sum_row, truth_row, variable_b_row, lookup_b_row, connect_row, negation_row, compare_row, quantify_row}
use Rattle.language.specs.Meaning.{number}
use Rattle.table.specs.Records.{ND, first_letter, second_letter, bits_of, word_bytes}
use Rattle.table.specs.Marks.{mark_of}
use Rattle.table.specs.Kinds.{arithmetic_kind, division_kind, connective_kind, comparison_kind, quantifier_kind}
use Rattle.translator.specs.declared.tables.Word.{Word}
use Rattle.translator.specs.declared.tables.Word.TheVariants.{Zero, One, FirstOfX, SecondOfX, FirstOfY, SecondOfY, Named, FirstIndex, LastIndex}
use Rattle.translator.specs.declared.tables.Reference.{Reference}
use Rattle.translator.specs.declared.tables.Reference.TheVariants.{Handed, Written}
use Rattle.translator.specs.declared.tables.Row as Rules
use Rattle.translator.specs.declared.writer.NewRecord.{NewRecord}

-- a record's bytes
unfoldable pub record_of : ℕ → ℕ → ℕ → ℕ → ℕ → List ℕ
record_of first second kind x y = first ∷ second ∷ kind ∷ 0 ∷ (word_bytes x ++ word_bytes y)

-- the bytes of a record to be written
unfoldable pub bytes_of : NewRecord → List ℕ
bytes_of r = record_of (first_letter (mark_of r.mark)) (second_letter (mark_of r.mark)) r.kind r.x r.y

pub record Cell : Type 0 where
  pub kind : ℕ
  pub x : ℕ
  pub y : ℕ

abbrev pub cell : ℕ → ℕ → ℕ → Cell
cell k a b = record { kind = k; x = a; y = b }

-- the record of a node
unfoldable pub cell_bytes : Cell → List ℕ
cell_bytes c = record_of (first_letter ND) (second_letter ND) c.kind c.x c.y

-- the records of nodes
unfoldable pub cells_bytes : List Cell → List ℕ
cells_bytes [] = []
cells_bytes (c ∷ cs) = cell_bytes c ++ cells_bytes cs

-- ---- rows of rules

-- how many words a node hands to its rule
abbrev pub words : ℕ
words = 9

-- the place of a word among them
unfoldable pub place_of : Word → ℕ
place_of Zero = 0
place_of One = 1
place_of FirstOfX = 2
place_of SecondOfX = 3
place_of FirstOfY = 4
place_of SecondOfY = 5
place_of Named = 6
place_of FirstIndex = 7
place_of LastIndex = 8

-- a reference as a number: one below `words` names a word, one from it on a row of the rule itself
unfoldable pub number_of : Reference → ℕ
number_of (Handed word) = place_of word
number_of (Written j) = words + j

-- what a reference stands for in a rule whose first row gets number n
unfoldable pub place : List ℕ → ℕ → ℕ → ℕ
place env n r = cond (ltb r words) (get_or env r 0) (n + (r - words))

-- a rule's row over references, for a node of kind `own`
unfoldable pub over_references : ℕ → Rules.Row → Cell
over_references own r = cell (unwrap_or r.kind own) (number_of r.x) (number_of r.y)

-- a rule's row written out
unfoldable pub resolve : List ℕ → ℕ → ℕ → Rules.Row → Cell
resolve env n own r = cell (unwrap_or r.kind own) (place env n (number_of r.x)) (place env n (number_of r.y))

-- the cell of a row
unfoldable pub fields : Row → Cell
fields (constant_row z) = cell 1 (bits_of z) 0
fields (truth_row b) = cell 2 (bits_of (number b)) 0
fields (variable_row v) = cell 3 v 0
fields (variable_b_row v) = cell 4 v 0
fields (slot_row s) = cell 5 s 0
fields (arith_row op a b) = cell (arithmetic_kind op) a b
fields (divide_row op a b) = cell (division_kind op) a b
fields (negate_row a) = cell 11 a 0
fields (bool_to_int_row a) = cell 14 a 0
fields (lookup_row A i) = cell 15 A i
fields (lookup_b_row A i) = cell 16 A i
fields (sum_row s a) = cell 17 s a
fields (connect_row c a b) = cell (connective_kind c) a b
fields (negation_row a) = cell 24 a 0
fields (compare_row c a b) = cell (comparison_kind c) a b
fields (quantify_row q s a) = cell (quantifier_kind q) s a
