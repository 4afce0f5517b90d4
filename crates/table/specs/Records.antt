-- The table on disk: "Records of 12 bytes: a two-byte ASCII mark, kind (1 byte), aux (1 byte, always 0), x and y (signed 32 bits, low
-- byte first)." A byte string is a list of numbers below 256. Past its end every byte reads as 0, so a record there has no mark.
use Rattle.std.specs.Prelude.{ℕ, ◌+◌, ◌-◌, ◌*◌, ◌/◌, ◌%◌, Bool, cond, ◌&&◌, List, [], ◌∷◌, ◌++◌, eqb, ltb, ℤ, pos, negsuc, length, get_or}

-- the bytes of a record
unfoldable pub record_size : ℕ
record_size = 12

pub data Mark : Type 0 where
  HD VR SL AR EL ND CN : Mark

-- a mark's two letters in ASCII
unfoldable pub first_letter : Mark → ℕ
first_letter HD = 72
first_letter VR = 86
first_letter SL = 83
first_letter AR = 65
first_letter EL = 69
first_letter ND = 78
first_letter CN = 67

unfoldable pub second_letter : Mark → ℕ
second_letter HD = 68
second_letter VR = 82
second_letter SL = 76
second_letter AR = 82
second_letter EL = 76
second_letter ND = 68
second_letter CN = 78

-- ---- words

-- what 32 bits stand for as a signed number
unfoldable pub signed : ℕ → ℤ
signed w = cond (ltb w 0x8000_0000) (pos w) (negsuc (0xffff_ffff - w))

-- and the 32 bits of a signed number
unfoldable pub bits_of : ℤ → ℕ
bits_of (pos n) = n
bits_of (negsuc n) = 0xffff_ffff - n

-- ---- reading

module _ (bs : List ℕ) where
  unfoldable pub byte_at : ℕ → ℕ
  byte_at i = get_or bs i 0

  -- four bytes from i on, low byte first
  unfoldable pub word_at : ℕ → ℕ
  word_at i = byte_at i + 256 * (byte_at (i + 1) + 256 * (byte_at (i + 2) + 256 * byte_at (i + 3)))

  -- how many records there are
  unfoldable pub record_count : ℕ
  record_count = length bs / record_size

  -- the parts of record k; "record numbers count from 0"
  unfoldable pub marked : Mark → ℕ → Bool
  marked m k = eqb (byte_at (record_size * k)) (first_letter m) && eqb (byte_at (record_size * k + 1)) (second_letter m)

  unfoldable pub kind_at : ℕ → ℕ
  kind_at k = byte_at (record_size * k + 2)

  unfoldable pub aux_at : ℕ → ℕ
  aux_at k = byte_at (record_size * k + 3)

  unfoldable pub x_at : ℕ → ℤ
  x_at k = signed (word_at (record_size * k + 4))

  unfoldable pub y_at : ℕ → ℤ
  y_at k = signed (word_at (record_size * k + 8))

-- ---- writing

unfoldable pub word_bytes : ℕ → List ℕ
word_bytes w = w % 256 ∷ w / 256 % 256 ∷ w / 65_536 % 256 ∷ w / 16_777_216 % 256 ∷ []

-- a record with aux 0
unfoldable pub record_bytes : Mark → ℕ → ℤ → ℤ → List ℕ
record_bytes m kind x y = first_letter m ∷ second_letter m ∷ kind ∷ 0 ∷ (word_bytes (bits_of x) ++ word_bytes (bits_of y))
