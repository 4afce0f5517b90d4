-- Runs of stores.
use mathlib.Core.Path.{◌≡◌, sym, ap, ◌∙◌}
use Prim.Native.Nat.{ℕ, suc, ◌+◌, ◌≤◌}
use native.Mathlib.Omega.{arith}
use mathlib.Core.List.{List, [], ◌∷◌, ◌++◌, append_assoc}
use lib.ListN.{length, set}
use lib.Seq.{sets, sets-eq, drop-drop}
use borrow.Rule.Slice.PartMut.{put_mid}
use Rattle.numbers.proofs.Lists.{sets-++}
use Rattle.table.specs.Records.{word_bytes}
use Rattle.translator.specs.Cells.{record_of}

-- A whole part.
pub part-stored : (xs ys : List ℕ) (at k : ℕ) → length ys ≡ k → at + k ≤ length xs → put_mid at k xs ys ≡ sets xs at ys
part-stored xs ys at k e h = rw (sets-eq ys xs at (omega arith), e) (simp (append_assoc, drop-drop))

-- Four stores in a row.
four_stores : (l : List ℕ) (i a b c d : ℕ) → set (set (set (set l i a) (i + 1) b) (i + 2) c) (i + 3) d ≡ sets l i (a ∷ b ∷ c ∷ d ∷ [])
four_stores l i a b c d =
    let e : i + 1 ≡ suc i = omega arith in
    let f : i + 2 ≡ suc (suc i) = omega arith in
    let g : i + 3 ≡ suc (suc (suc i)) = omega arith in
    rw (e, f, g)

-- A record: its first four bytes, then its two words.
pub record_stores : (l : List ℕ) (i a b c x y : ℕ) {m n : List ℕ} → m ≡ sets (set (set (set (set l i a) (i + 1) b) (i + 2) c) (i + 3) 0) (i + 4) (word_bytes x) → n ≡ sets m (i + 8) (word_bytes y) → n ≡ sets l i (record_of a b c x y)
unfolding record_of word_bytes
record_stores l i a b c x y {m} {n} p q =
    q ∙ ap (λ k. sets k (i + 8) (word_bytes y)) (p ∙ ap (λ k. sets k (i + 4) (word_bytes x)) (four_stores l i a b c 0))
    ∙ ap (λ k. sets (sets (sets l i (a ∷ b ∷ c ∷ 0 ∷ [])) (i + 4) (word_bytes x)) k (word_bytes y)) eight
    ∙ sym (sets-++ (sets l i (a ∷ b ∷ c ∷ 0 ∷ [])) (i + 4) (word_bytes x) (word_bytes y))
    ∙ sym (sets-++ l i (a ∷ b ∷ c ∷ 0 ∷ []) (word_bytes x ++ word_bytes y))
  where
    eight : i + 8 ≡ i + 4 + 4
    eight = omega arith
