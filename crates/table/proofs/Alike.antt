-- Records with the same bytes, in one byte string or two: their marks, kinds and numbers are the same.
use mathlib.Core.Path.{◌≡◌, sym, ap, ◌∙◌}
use Prim.Native.Nat.{ℕ, suc, ◌+◌, ◌*◌, ◌≤◌, ◌<◌}
use native.Mathlib.Nat.{add-zero, add_assoc, mul-suc, mul-add}
use native.Mathlib.Omega.{arith}
use mathlib.Core.List.{List, ◌++◌}
use lib.ListN.{length, take, drop, get_or-append}
use lib.Seq.{get_or-append-add, get_or-take, get_or-drop}
use Rattle.table.specs.Records.{Mark, record_size, signed, byte_at, word_at, marked, kind_at, aux_at, x_at, y_at}

-- A record holds its mark, kind, aux and two words.
11<record_size : 11 < record_size
unfolding record_size
11<record_size = omega arith

-- Record k of bs has the bytes of record l of cs.
pub record Alike (bs : List ℕ) (k : ℕ) (cs : List ℕ) (l : ℕ) : Type 0 where
  pub bytes : (j : ℕ) → j < record_size → byte_at bs (record_size * k + j) ≡ byte_at cs (record_size * l + j)

-- What is alike to something alike is alike.
pub Alike-trans : {bs cs ds : List ℕ} {j k l : ℕ} → Alike bs j cs k → Alike cs k ds l → Alike bs j ds l
Alike-trans h g = record { bytes = λ i b. h.bytes i b ∙ g.bytes i b }

-- ---- the parts of a record

module _ {bs cs : List ℕ} {k l : ℕ} (h : Alike bs k cs l) where
  -- A word at a place of the record.
  word_alike : (j : ℕ) → j + 3 < record_size → word_at bs (record_size * k + j) ≡ word_at cs (record_size * l + j)
  unfolding word_at
  word_alike j b =
      rw (
        add_assoc (record_size * k) j 1,
        add_assoc (record_size * k) j 2,
        add_assoc (record_size * k) j 3,
        add_assoc (record_size * l) j 1,
        add_assoc (record_size * l) j 2,
        add_assoc (record_size * l) j 3,
        h.bytes j (omega arith),
        h.bytes (j + 1) (omega arith),
        h.bytes (j + 2) (omega arith),
        h.bytes (j + 3) (omega arith),
      )

  -- The mark of the record.
  pub marked-alike : (m : Mark) → marked bs m k ≡ marked cs m l
  unfolding marked
  marked-alike m =
      let first : byte_at bs (record_size * k) ≡ byte_at cs (record_size * l) = simp add-zero at (h.bytes 0 (omega (arith, 11<record_size))) in
      rw (first, h.bytes 1 (omega (arith, 11<record_size)))

  -- The kind of the record.
  pub kind_at-alike : kind_at bs k ≡ kind_at cs l
  unfolding kind_at
  kind_at-alike = h.bytes 2 (omega (arith, 11<record_size))

  -- The aux of the record.
  pub aux_at-alike : aux_at bs k ≡ aux_at cs l
  unfolding aux_at
  aux_at-alike = h.bytes 3 (omega (arith, 11<record_size))

  -- The x of the record.
  pub x_at-alike : x_at bs k ≡ x_at cs l
  unfolding x_at
  x_at-alike = ap signed (word_alike 4 (omega (arith, 11<record_size)))

  -- The y of the record.
  pub y_at-alike : y_at bs k ≡ y_at cs l
  unfolding y_at
  y_at-alike = ap signed (word_alike 8 (omega (arith, 11<record_size)))

-- ---- records of a longer byte string

module _ (xs ys : List ℕ) where
  -- The records of a byte string stand in a longer one,
  pub Alike-left : (k : ℕ) → record_size * suc k ≤ length xs → Alike (xs ++ ys) k xs k
  unfolding byte_at
  Alike-left k h = record { bytes = λ j b. get_or-append xs ys 0 (record_size * k + j) (omega (arith, rw (mul-suc record_size k) at h)) }

  -- and those behind it further on.
  pub Alike-right : (n k : ℕ) → length xs ≡ record_size * n → Alike (xs ++ ys) (n + k) ys k
  unfolding byte_at
  Alike-right n k e = record { bytes = λ j b. ap (byte_at (xs ++ ys)) (place j) ∙ get_or-append-add xs ys (record_size * k + j) 0 }
    where
      place : (j : ℕ) → record_size * (n + k) + j ≡ length xs + (record_size * k + j)
      place j = rw (mul-add record_size n k, ← e) (add_assoc (length xs) (record_size * k) j)

module _ (bs : List ℕ) where
  -- The records that are kept of a byte string,
  pub Alike-take : (n k : ℕ) → record_size * suc k ≤ n → Alike (take n bs) k bs k
  unfolding byte_at
  Alike-take n k h = record { bytes = λ j b. get_or-take n bs (record_size * k + j) 0 (omega (arith, b, rw mul-suc at h)) }

  -- and those that are left when some are dropped.
  pub Alike-drop : (n d k : ℕ) → d ≡ record_size * n → Alike (drop d bs) k bs (n + k)
  unfolding byte_at
  Alike-drop n d k e = record { bytes = λ j b. get_or-drop d bs (record_size * k + j) 0 ∙ ap (byte_at bs) (place j) }
    where
      place : (j : ℕ) → d + (record_size * k + j) ≡ record_size * (n + k) + j
      place j = rw (mul-add record_size n k, e) (sym (add_assoc (record_size * n) (record_size * k) j))
