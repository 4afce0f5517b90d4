-- The records that trials are written with, as bytes.
use Prim.Native.Nat.{ℕ, ◌+◌}
use mathlib.Core.List.{List, [], ◌∷◌, ◌++◌}
use lib.IntN.{ℤ, pos}
use lib.ListN.{length}
use Rattle.table.specs.Records.{Mark, HD, first_letter, second_letter, word_bytes, bits_of}

-- a record with its aux, and one with aux 0
unfoldable pub with_aux : Mark → ℕ → ℕ → ℤ → ℤ → List ℕ
unfolding first_letter second_letter word_bytes bits_of
with_aux m kind aux x y = first_letter m ∷ second_letter m ∷ kind ∷ aux ∷ (word_bytes (bits_of x) ++ word_bytes (bits_of y))

unfoldable pub at : Mark → ℕ → ℤ → ℤ → List ℕ
unfolding with_aux
at m kind x y = with_aux m kind 0 x y

-- records one behind the other
unfoldable pub joined : List (List ℕ) → List ℕ
joined [] = []
joined (r ∷ rs) = r ++ joined rs

-- HD with its count, and these records behind it
unfoldable pub headed : List (List ℕ) → List ℕ
unfolding at joined
headed rs = joined (at HD 1 (pos (1 + length rs)) (pos 0) ∷ rs)
