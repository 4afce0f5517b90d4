-- The arrays of a table, walked from one to the next.
use mathlib.Core.Path.{◌≡◌, refl, sym, ap, ◌∙◌}
use mathlib.Core.Logic.{⊎_elim}
use Prim.Native.Nat.{ℕ, zero, suc, ◌+◌, ◌-◌, ◌%◌, ◌≤◌, ◌<◌}
use native.Mathlib.Omega.{arith}
use Rattle.numbers.proofs.Naturals.{lt_or_ge}
use Rattle.numbers.proofs.Lists.{get_d_replicate_same}
use native.Mathlib.Numerals.{add-one}
use mathlib.Core.Bool.{Bool, true, false}
use mathlib.Core.List.{List, [], ◌∷◌}
use lib.ListN.{length, get_or, drop, set, replicate, length-drop, length-set, length-replicate, get_or-eq_default}
use lib.Seq.{drop-cons, get_or-set_same, get_or-set_other}
use Rattle.numbers.specs.Limits.{most_arrays}
use Rattle.table.specs.Records.{AR, marked, record_count, record_size}
use Rattle.answers.specs.Sections.{arrays_at, behind_array, arrays_from, array_records}
use Rattle.layout.specs.Places.{ArraysHeld}
use Rattle.answers.proofs.RunEnds.{arrays-stop, arrays-on, unmarked_beyond}

-- The first n places hold the records of the first n arrays, the others 0, and array n begins at p.
pub record Placed (bs places : List ℕ) (n p : ℕ) : Type 0 where
  pub sized : length places ≡ most_arrays
  pub before : (a : ℕ) → a < n → get_or places a 0 ≡ get_or (array_records bs) a 0
  pub after : (a : ℕ) → n ≤ a → get_or places a 0 ≡ 0
  pub rest : drop n (array_records bs) ≡ arrays_from bs (record_count bs - n) p

module _ (bs : List ℕ) where
  pub placed-none : Placed bs (replicate most_arrays 0) 0 (arrays_at bs)
  unfolding array_records
  placed-none =
      let z : record_count bs - 0 ≡ record_count bs = omega arith in
      record { sized = length-replicate {A = ℕ} most_arrays 0; before = λ a h. absurd (omega arith); after = λ a h. get_d_replicate_same {A = ℕ} most_arrays a 0; rest = rw z }

  module _ {places : List ℕ} {n p : ℕ} (w : Placed bs places n p) (whole : length bs % record_size ≡ 0) (h : n < length (array_records bs)) where
    -- an array that is counted has its mark
    marked_next : (b : Bool) → marked bs AR p ≡ b → marked bs AR p ≡ true
    marked_next true e = e
    marked_next false e = absurd (omega (arith, length-drop n (array_records bs), ap length (w.rest ∙ arrays-stop bs (record_count bs - n) p e)))

    pub next-within : p < record_count bs
    next-within = ⊎_elim (λ k. k) (λ k. absurd (clash (sym (marked_next (marked bs AR p) refl) ∙ unmarked_beyond bs whole AR p k))) (lt_or_ge p (record_count bs))
      where
        clash : true ≡ false → ⊥
        clash e = let z : ◌≡◌ {A = ℕ} 0 1 = cc in omega arith

    fuel : (f : ℕ) → record_count bs - n ≡ f → record_count bs - n ≡ suc (record_count bs - (n + 1))
    unfolding arrays_from
    fuel zero e = absurd (omega (arith, length-drop n (array_records bs), ap length {y = []} (w.rest ∙ rw e)))
    fuel (suc f) e = omega arith

    split : get_or (array_records bs) n 0 ∷ drop (suc n) (array_records bs) ≡ p ∷ arrays_from bs (record_count bs - (n + 1)) (behind_array bs p)
    split = sym (drop-cons (array_records bs) n 0 h) ∙ w.rest ∙ arrays-on bs _ _ p (fuel (record_count bs - n) refl) (marked_next (marked bs AR p) refl)

    pub placed-more : n < most_arrays → {q : ℕ} → q ≡ behind_array bs p → Placed bs (set places n p) (n + 1) q
    placed-more k {q} e =
        record {
          sized = length-set places n p ∙ w.sized;
          before = λ a l. ⊎_elim (λ m. get_or-set_other places n a p 0 (λ z. omega arith) ∙ w.before a m) (λ m. at_n a (omega arith)) (lt_or_ge a n);
          after = λ a l. get_or-set_other places n a p 0 (λ z. omega arith) ∙ w.after a (omega arith);
          rest = rw e (ap (λ m. drop m (array_records bs)) (add-one n) ∙ tail_of split);
        }
      where
        head_of : {a b : ℕ} {xs ys : List ℕ} → a ∷ xs ≡ b ∷ ys → a ≡ b
        head_of e = cc

        tail_of : {a b : ℕ} {xs ys : List ℕ} → a ∷ xs ≡ b ∷ ys → xs ≡ ys
        tail_of e = cc

        at_n : (a : ℕ) → a ≡ n → get_or (set places n p) a 0 ≡ get_or (array_records bs) a 0
        at_n a z = rw z (get_or-set_same places n p 0 (omega (arith, w.sized)) ∙ sym (head_of split))

  pub placed-all : {places : List ℕ} {n p : ℕ} → Placed bs places n p → length (array_records bs) ≤ n → ArraysHeld bs places
  placed-all {places} {n} w h =
      record { held = λ a. ⊎_elim (λ l. w.before a l) (λ l. w.after a l ∙ sym (get_or-eq_default (array_records bs) 0 {n = a} (omega arith))) (lt_or_ge a n) }
