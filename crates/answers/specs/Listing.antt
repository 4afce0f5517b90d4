-- The text of a listing: what the listing program writes for what it reads.
use Rattle.std.specs.Prelude.{ℕ, zero, suc, ◌+◌, ◌-◌, ◌*◌, ◌/◌, ◌%◌, true, false, cond, ◌&&◌, List, [], ◌∷◌, ◌++◌, leb, ltb, ℤ, pos, negsuc}
use Rattle.std.proofs.Math.Option.{none, some}
use Rattle.numbers.specs.Limits.{most_bytes}
use Rattle.table.specs.Records.{record_size, byte_at, kind_at, aux_at, x_at, y_at}
use Rattle.answers.specs.Check.{Refusal, first}
use Rattle.answers.specs.Answers.{reading_chosen, translation, new_count, translate_order}

-- a number's decimal digits in ASCII, as many as there are but n at most
unfoldable pub digits : ℕ → ℕ → List ℕ
digits zero w = []
digits (suc n) w = elim (ltb w 10) [ true ↦ (48 + w) ∷ [] | false ↦ digits n (w / 10) ++ ((48 + w % 10) ∷ []) ]

-- ten digits hold every number of 32 bits
unfoldable pub decimal : ℕ → List ℕ
decimal w = digits 10 w

unfoldable pub signed_decimal : ℤ → List ℕ
signed_decimal (pos n) = decimal n
signed_decimal (negsuc n) = 45 ∷ decimal (suc n)

abbrev pub space : List ℕ
space = 32 ∷ []

abbrev pub newline : List ℕ
newline = 10 ∷ []

module _ (table : List ℕ) where
  -- "each record .. as mark, kind, aux, x, y with single spaces"
  unfoldable pub line_of : ℕ → List ℕ
  line_of k =
      (byte_at table (record_size * k) ∷ byte_at table (record_size * k + 1) ∷ [])
      ++ (space ++ (decimal (kind_at table k)
      ++ (space ++ (decimal (aux_at table k)
      ++ (space ++ (signed_decimal (x_at table k)
      ++ (space ++ (signed_decimal (y_at table k) ++ newline))))))))

  -- the first n records
  unfoldable pub lines_of : ℕ → List ℕ
  lines_of zero = []
  lines_of (suc n) = lines_of n ++ line_of n

-- "on refusal: `refused`, number, record"
unfoldable pub refusal_line : Refusal → List ℕ
refusal_line r = (114 ∷ 101 ∷ 102 ∷ 117 ∷ 115 ∷ 101 ∷ 100 ∷ []) ++ (space ++ (decimal r.number ++ (space ++ (decimal r.at ++ newline))))

-- the translation in a buffer that holds any
unfoldable pub listing_of : ℕ → List ℕ → List ℕ
listing_of choice table =
    elim (first (translate_order choice table most_bytes)) [
      | none ↦ lines_of (translation table (reading_chosen choice)) (new_count table (reading_chosen choice))
      | some r ↦ refusal_line r
    ]

-- "one digit of choice (any other byte, or none, counts as choice 0)"
unfoldable pub choice_of : ℕ → ℕ
choice_of b = cond (leb 48 b && leb b 57) (b - 48) 0

-- all of standard input: the digit, "and then the table"
unfoldable pub listing : List ℕ → List ℕ
listing [] = listing_of 0 []
listing (b ∷ table) = listing_of (choice_of b) table
