-- Reading back what is written: a record's bytes, and records one behind the other.
use mathlib.Core.Path.{◌≡◌, refl, sym, ◌∙◌}
use Prim.Native.Nat.{ℕ, zero, suc, ◌+◌, ◌*◌, ◌<◌}
use native.Mathlib.Nat.{not-suc-le-zero, le_of_suc-le-suc, le_refl, mul-suc, mul-one, mul-zero, suc-add, zero-add}
use native.Mathlib.Omega.{arith}
use mathlib.Core.Bool.{Bool, ◌&&◌}
use mathlib.Core.List.{List, [], ◌∷◌, ◌++◌}
use lib.Dec.{eqb}
use lib.IntN.{ℤ}
use lib.ListN.{length, get_or, length-append}
use Rattle.table.specs.Records.{Mark, record_size, first_letter, second_letter, byte_at, word_at, marked, kind_at, aux_at, x_at, y_at, word_bytes, record_bytes}
use Rattle.table.proofs.Words.{InWord, signed-bytes}
use Rattle.table.proofs.Alike.{Alike, Alike-trans, marked-alike, kind_at-alike, aux_at-alike, x_at-alike, y_at-alike, Alike-left, Alike-right}

-- ---- one record

-- two marks have the same letters
abbrev pub same_mark : Mark → Mark → Bool
same_mark m n = eqb (first_letter m) (first_letter n) && eqb (second_letter m) (second_letter n)

-- What record k of bs reads as.
pub record RecordIs (bs : List ℕ) (k : ℕ) (m : Mark) (kind : ℕ) (x y : ℤ) : Type 0 where
  pub marks : (n : Mark) → marked bs n k ≡ same_mark m n
  pub kind_is : kind_at bs k ≡ kind
  pub aux_is : aux_at bs k ≡ 0
  pub x_is : x_at bs k ≡ x
  pub y_is : y_at bs k ≡ y

module _ (m : Mark) (kind : ℕ) (x y : ℤ) where
  -- A record has its size.
  pub length-record_bytes : length (record_bytes m kind x y) ≡ record_size
  unfolding record_bytes word_bytes record_size
  length-record_bytes = refl

  -- A record reads as it is written, if its numbers have 32 bits.
  pub record_bytes-RecordIs : InWord x → InWord y → RecordIs (record_bytes m kind x y) 0 m kind x y
  unfolding record_bytes word_bytes record_size marked kind_at aux_at x_at y_at word_at byte_at
  record_bytes-RecordIs a b =
      record { marks = λ n. refl; kind_is = refl; aux_is = refl; x_is = signed-bytes x a; y_is = signed-bytes y b }

-- A record with the bytes of another reads as that one.
pub Alike→RecordIs : {bs cs : List ℕ} {k l : ℕ} {m : Mark} {kind : ℕ} {x y : ℤ} → Alike bs k cs l → RecordIs cs l m kind x y → RecordIs bs k m kind x y
Alike→RecordIs h r =
    record {
      marks = λ n. marked-alike h n ∙ r.marks n;
      kind_is = kind_at-alike h ∙ r.kind_is;
      aux_is = aux_at-alike h ∙ r.aux_is;
      x_is = x_at-alike h ∙ r.x_is;
      y_is = y_at-alike h ∙ r.y_is;
    }

-- ---- records one behind the other

module _ {A : Type 0} (f : A → List ℕ) where
  -- the bytes of each, joined
  abbrev pub joined : List A → List ℕ
  joined [] = []
  joined (a ∷ l) = f a ++ joined l

  module _ (sized : (a : A) → length (f a) ≡ record_size) where
    -- Joined records have as many bytes as they should.
    pub length-joined : (l : List A) → length (joined l) ≡ record_size * length l
    length-joined [] = sym (mul-zero record_size)
    length-joined (a ∷ l) = length-append (f a) (joined l) ∙ rw (sized a, length-joined l, mul-suc) (omega arith)

    -- Record k of them is the one of the k-th.
    pub joined-alike : (l : List A) (k : ℕ) (d : A) → k < length l → Alike (joined l) k (f (get_or l k d)) 0
    joined-alike [] k d h = absurd (not-suc-le-zero h)
    joined-alike (a ∷ l) zero d h = Alike-left (f a) (joined l) 0 (rw (sized a, mul-one) (le_refl record_size))
    joined-alike (a ∷ l) (suc k) d h =
        let next : Alike (f a ++ joined l) (1 + k) (joined l) k = Alike-right (f a) (joined l) 1 k (sized a ∙ sym (mul-one record_size)) in
        Alike-trans (rw (suc-add zero k, zero-add) at next) (joined-alike l k d (le_of_suc-le-suc h))
