-- Laws of cells and of the rows of a rule.
use mathlib.Core.Path.{◌≡◌, refl, sym, ap, ◌∙◌}
use Prim.Native.Nat.{ℕ, ◌+◌, ◌-◌, ◌*◌, ◌≤◌, ◌<◌}
use native.Mathlib.Omega.{arith}
use mathlib.Core.List.{List, [], ◌∷◌, ◌++◌, map, append_assoc, append-nil}
use lib.ListN.{length, get_or, take, length-append, length-map}
use lib.Seq.{sets, length-take-le}
use borrow.Author.Tests.{le-ltb}
use Rattle.table.specs.Records.{ND, record_size, first_letter, second_letter, word_bytes}
use Rattle.std.specs.Prelude.{unwrap_or}
use Rattle.std.proofs.lemmas.List.{take_more}
use Rattle.table.specs.Marks.{mark_of}
use Rattle.table.specs.declared.Mark.TheVariants.{Node}
use Rattle.translator.specs.declared.tables.Word.{Word}
use Rattle.translator.specs.declared.tables.Word.TheVariants.{Zero, One, FirstOfX, SecondOfX, FirstOfY, SecondOfY, Named, FirstIndex, LastIndex}
use Rattle.translator.specs.declared.tables.Row as Rules
use Rattle.translator.specs.Cells.{Cell, record_of, bytes_of, cell_bytes, cells_bytes, words, place_of, number_of, place, resolve}
use Rattle.numbers.proofs.Lists.{sets-++}

-- ---- places

pub place-row : (env : List ℕ) (n r : ℕ) → words ≤ r → place env n r ≡ n + (r - words)
unfolding place
place-row env n r h = rw (le-ltb r words h)

-- A word's place is one of the words.
pub place-of_word : (env : List ℕ) (n : ℕ) (word : Word) → place env n (place_of word) ≡ get_or env (place_of word) 0
unfolding place place_of
place-of_word env n Zero = refl
place-of_word env n One = refl
place-of_word env n FirstOfX = refl
place-of_word env n SecondOfX = refl
place-of_word env n FirstOfY = refl
place-of_word env n SecondOfY = refl
place-of_word env n Named = refl
place-of_word env n FirstIndex = refl
place-of_word env n LastIndex = refl

-- ---- bytes

pub length-record_of : (a b k x y : ℕ) → length (record_of a b k x y) ≡ record_size
unfolding record_of word_bytes record_size
length-record_of a b k x y = refl

pub length-cells_bytes : (cs : List Cell) → length (cells_bytes cs) ≡ record_size * length cs
unfolding cells_bytes cell_bytes record_size
length-cells_bytes [] = refl
length-cells_bytes (c ∷ cs) =
    length-append (record_of (first_letter ND) (second_letter ND) c.kind c.x c.y) (cells_bytes cs)
    ∙ omega (arith, length-cells_bytes cs, length-record_of (first_letter ND) (second_letter ND) c.kind c.x c.y)

pub cells_bytes-++ : (cs ds : List Cell) → cells_bytes (cs ++ ds) ≡ cells_bytes cs ++ cells_bytes ds
unfolding cells_bytes
cells_bytes-++ [] ds = refl
cells_bytes-++ (c ∷ cs) ds = ap (λ l. cell_bytes c ++ l) (cells_bytes-++ cs ds) ∙ sym (append_assoc (cell_bytes c) (cells_bytes cs) (cells_bytes ds))

pub map-++ : {A B : Type 0} (f : A → B) (xs ys : List A) → map f (xs ++ ys) ≡ map f xs ++ map f ys
map-++ f [] ys = refl
map-++ f (x ∷ xs) ys = ap (λ l. f x ∷ l) (map-++ f xs ys)

-- ---- one row more

module _ (env : List ℕ) (base own : ℕ) where
  -- the bytes of rows
  abbrev pub written : List Rules.Row → List ℕ
  written rows = cells_bytes (map (resolve env base own) rows)

  length_written : (rows : List Rules.Row) → length (written rows) ≡ record_size * length rows
  length_written rows = length-cells_bytes (map (resolve env base own) rows) ∙ ap (λ k. record_size * k) (length-map rows (resolve env base own))

  written-more : (rows : List Rules.Row) (row : Rules.Row) → written (rows ++ (row ∷ [])) ≡ written rows ++ cell_bytes (resolve env base own row)
  unfolding cells_bytes
  written-more rows row =
      rw (map-++ (resolve env base own) rows (row ∷ []), cells_bytes-++ (map (resolve env base own) rows) (resolve env base own row ∷ [])) (ap (λ l. written rows ++ l) (simp append-nil))

  pub rows_more : (o : List ℕ) {out new : List ℕ} (rows : List Rules.Row) (d : Rules.Row) (at j : ℕ) {kind x y : ℕ} → j < length rows → out ≡ sets o at (written (take j rows))
      → new ≡ sets out (at + 12 * j) (bytes_of (record { mark = Node; kind = kind; x = x; y = y }))
      → kind ≡ unwrap_or (get_or rows j d).kind own → x ≡ place env base (number_of (get_or rows j d).x) → y ≡ place env base (number_of (get_or rows j d).y)
      → new ≡ sets o at (written (take (j + 1) rows))
  unfolding record_size cell_bytes resolve bytes_of mark_of
  rows_more o {out} {new} rows d at j {kind} {x} {y} h e f k p q =
      let n = length_written (take j rows) in
      let t = length-take-le j rows (omega arith) in
      f ∙ rw (e, k, p, q) (ap (λ i. sets (sets o at (written (take j rows))) (at + i) (cell_bytes (resolve env base own (get_or rows j d)))) (omega (arith, n, t))
      ∙ sym (sets-++ o at (written (take j rows)) (cell_bytes (resolve env base own (get_or rows j d)))) ∙ ap (sets o at) (sym (ap written (take_more rows j d h) ∙ written-more (take j rows) (get_or rows j d))))
