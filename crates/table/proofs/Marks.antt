-- Marks of records: a marked record stands within the table, and no record has two marks.
use mathlib.Core.Path.{◌≡◌, sym, ◌∙◌}
use Prim.Native.Nat.{ℕ, ◌+◌, ◌*◌, ◌%◌, ◌<◌}
use native.Mathlib.Nat.{div-add-mod, add-zero, lt_of_mul-lt-mul_left}
use native.Mathlib.Omega.{arith}
use native.Mathlib.Decide.{dec_lt}
use mathlib.Core.List.{List}
use lib.Dec.{T, eqb, eqb→eq}
use lib.ListN.{length, get_or-eq_default}
use Rattle.numbers.proofs.Tests.{&&-fst}
use Rattle.table.specs.Records.{Mark, HD, VR, SL, AR, EL, ND, CN, record_size, first_letter, second_letter, byte_at, record_count, marked}

-- A record has bytes.
pub 0<record_size : 0 < record_size
unfolding record_size
0<record_size = omega arith

-- Where no byte is left over, the records make up the table.
pub length-records : (bs : List ℕ) → length bs % record_size ≡ 0 → length bs ≡ record_size * record_count bs
unfolding record_count
length-records bs e = sym (div-add-mod (length bs) record_size) ∙ rw (e, add-zero)

-- No mark begins with a byte 0.
first_letter≢0 : (m : Mark) → 0 < first_letter m
unfolding first_letter
first_letter≢0 HD = omega arith
first_letter≢0 VR = omega arith
first_letter≢0 SL = omega arith
first_letter≢0 AR = omega arith
first_letter≢0 EL = omega arith
first_letter≢0 ND = omega arith
first_letter≢0 CN = omega arith

module _ (bs : List ℕ) (m : Mark) (k : ℕ) where
  -- A record with a mark begins with the mark's first letter.
  pub marked→byte_at : T (marked bs m k) → byte_at bs (record_size * k) ≡ first_letter m
  unfolding marked
  marked→byte_at t =
      eqb→eq (byte_at bs (record_size * k)) (first_letter m)
      (&&-fst (eqb (byte_at bs (record_size * k)) (first_letter m)) (eqb (byte_at bs (record_size * k + 1)) (second_letter m)) t)

  -- Past the end nothing has a mark.
  pub marked→<record_count : length bs ≡ record_size * record_count bs → T (marked bs m k) → k < record_count bs
  unfolding byte_at
  marked→<record_count e t = go (dec_lt (record_size * k) (length bs))
    where
      go : Dec (record_size * k < length bs) → k < record_count bs
      go (yes h) = lt_of_mul-lt-mul_left record_size (rw e at h)
      go (no h) =
          let past : byte_at bs (record_size * k) ≡ 0 = get_or-eq_default bs 0 (omega arith) in
          absurd (omega (arith, past, marked→byte_at t, first_letter≢0 m))
