-- The words of a node, one by one.
use mathlib.Core.Path.{◌≡◌, sym, ap, ◌∙◌}
use Prim.Native.Nat.{ℕ, ◌<◌}
use mathlib.Core.Bool.{Bool, true, false}
use mathlib.Core.List.{List, [], ◌∷◌}
use borrow.Author.Tests.{lt-ltb}
use lib.IntN.{ℤ, pos, nat_abs, ◌+ℤ◌, pred_ℤ}
use lib.ListN.{length, get_or}
use mir.Syntax.{w32}
use mir.Val.{of_z}
use Rattle.language.specs.Syntax.{Array}
use Rattle.language.specs.Meaning.{array_at}
use Rattle.rules.specs.Rules.{last}
use Rattle.table.specs.Records.{signed, bits_of, kind_at, x_at, y_at}
use Rattle.table.specs.Kinds.{kinds, kind_of}
use Rattle.kinds.specs.declared.Operand.{Operand}
use Rattle.kinds.specs.declared.Entry.{Entry}
use Rattle.kinds.specs.Entries.{operand_x, entry_of, entries_of, row_of}
use Rattle.kinds.proofs.Rows.{entry-at-row}
use Rattle.answers.specs.Sections.{declarations, array_records, array_of}
use Rattle.answers.proofs.Listed.{length-listed}
use Rattle.answers.proofs.Declared.{array_at-declarations}
use Rattle.translator.specs.Words.{literal, looks_up, node_numbers, node_words}
use Rattle.writing.specs.Operands.{stands_for, names_array}
use Rattle.writing.specs.Ends.{indexes_of}
use Rattle.writing.specs.declared.words.Indexes.{Indexes}
use Rattle.writing.proofs.Bits.{signed-of_z}
use Rattle.writing.proofs.Operands.{machine-bits, stands, looked_up}

-- ---- indices

-- The indices of the array of record p.
pub indexes_are : (bs : List ℕ) (p : ℕ) {f l n : ℕ} → f ≡ of_z w32 (x_at bs p) → n ≡ nat_abs (y_at bs p) → l ≡ bits_of (pred_ℤ (signed f +ℤ pos n)) → ◌≡◌ {A = Indexes} (record { first = f; last = l }) (indexes_of true (array_of bs p))
unfolding indexes_of array_of last
indexes_are bs p {f} {l} {n} a b c = rw (length-listed) (both (a ∙ machine-bits (x_at bs p)) (c ∙ rw (a, b, signed-of_z bs p)))
  where
    both : {a b : ℕ} → f ≡ a → l ≡ b → ◌≡◌ {A = Indexes} (record { first = f; last = l }) (record { first = a; last = b })
    both p q = cc

-- The indices of array a, which stands at record p,
pub looked-up : (bs : List ℕ) {a p : ℕ} {t : Bool} → a < length (array_records bs) → p ≡ get_or (array_records bs) a 0 → t ≡ true → indexes_of true (array_of bs p) ≡ indexes_of t (array_at (declarations bs) a)
looked-up bs h e f = rw (f, e, array_at-declarations bs _ h)

-- and none where no array is looked up.
pub not-looked-up : (A : Array) {t : Bool} → t ≡ false → ◌≡◌ {A = Indexes} (record { first = 0; last = 0 }) (indexes_of t A)
unfolding indexes_of bits_of
not-looked-up A e = rw e

-- ---- operands

-- The operand of a kind's x, read out of the kind's entry,
pub operand_is : {entries : List Entry} (d : Entry) {i k : ℕ} → entries ≡ entries_of kinds → i ≡ k → k < 31 → (get_or entries i d).x ≡ operand_x (kind_of k)
unfolding row_of entry_of
operand_is {entries} d {i} {k} e f h = rw (e, f) (ap (λ (r : ℕ). (get_or (entries_of kinds) r d).x) (sym (rw (lt-ltb k 31 h))) ∙ ap (λ (q : Entry). q.x) (entry-at-row k d))

-- tells what x stands for by itself,
pub own_is : {o k : ℕ} {x z : ℤ} {operand : Operand} → k < 31 → operand ≡ operand_x (kind_of k) → z ≡ x → o ≡ bits_of (stands_for operand z) → o ≡ bits_of (literal k x)
own_is {o} {k} {x} h e r f = f ∙ rw (e, r) (ap bits_of (stands x k h))

-- and whether it is an array's number.
pub array-is : {k : ℕ} {operand : Operand} → k < 31 → operand ≡ operand_x (kind_of k) → names_array operand ≡ looks_up k
array-is {k} h e = rw e (looked_up k h)

-- ---- all words

module _ (bs firsts seconds : List ℕ) (p : ℕ) where
  -- The words are the node's.
  pub words_are : {x y a b c d o : ℕ} {t : Bool} {i : Indexes} → x ≡ nat_abs (x_at bs p) → y ≡ nat_abs (y_at bs p) → a ≡ get_or firsts x 0 → b ≡ get_or seconds x 0 → c ≡ get_or firsts y 0 → d ≡ get_or seconds y 0 → o ≡ bits_of (literal (kind_at bs p) (x_at bs p)) → t ≡ looks_up (kind_at bs p) → i ≡ indexes_of t (array_at (declarations bs) x)
      → 0 ∷ 1 ∷ a ∷ b ∷ c ∷ d ∷ o ∷ i.first ∷ i.last ∷ [] ≡ node_words (declarations bs) firsts seconds (kind_at bs p) (x_at bs p) (y_at bs p)
  unfolding node_words node_numbers indexes_of bits_of
  words_are ex ey ea eb ec ed eo et ei = rw (ea, eb, ec, ed, eo, ei, et, ex, ey)
