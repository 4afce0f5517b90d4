-- What the walks over a table's records keep.
use mathlib.Core.Path.{◌≡◌, sym, ◌∙◌, ap}
use mathlib.Core.Bool.{true, false}
use mathlib.Core.List.{List}
use Prim.Native.Nat.{ℕ, suc, ◌+◌, ◌-◌, ◌≤◌, ◌<◌}
use native.Mathlib.Nat.{le_refl, add-zero}
use native.Mathlib.Numerals.{add-one}
use native.Mathlib.Omega.{arith}
use lib.IntN.{nat_abs}
use lib.ListN.{length}
use Rattle.table.specs.Records.{Mark, AR, record_count, marked, y_at}
use Rattle.answers.specs.Sections.{run_end, end_of, behind_array, arrays_from, arrays_end}
use Rattle.answers.proofs.RunEnds.{run_on, run_stop, arrays-on, arrays-end-on, arrays-stop, arrays-end-stop}
use Rattle.sections.specs.Places.{array_run_of}

-- a walk over one mark stands at p: the run ends where it ends from p on
pub record Run (bs : List ℕ) (m : Mark) (from p : ℕ) : Type 0 where
  pub behind : from ≤ p
  pub same : end_of bs m from ≡ run_end bs m (record_count bs + from - p) p

module _ {bs : List ℕ} {m : Mark} {from : ℕ} where
  pub run_starts : Run bs m from from
  unfolding end_of
  run_starts = record { behind = le_refl from; same = ap (λ (k : ℕ). run_end bs m k from) (omega arith) }

  pub run_goes_on : {p : ℕ} → Run bs m from p → p < record_count bs → marked bs m p ≡ true → Run bs m from (p + 1)
  run_goes_on {p} r h e =
      record {
        behind = omega arith;
        same =
            r.same ∙ run_on bs m _ (record_count bs + from - (p + 1)) p (fuel r.behind) e
            ∙ ap (run_end bs m (record_count bs + from - (p + 1))) (sym (add-one p));
      }
    where
      fuel : from ≤ p → record_count bs + from - p ≡ suc (record_count bs + from - (p + 1))
      fuel b = omega arith

  pub run_ends : {p : ℕ} → Run bs m from p → marked bs m p ≡ false → p ≡ end_of bs m from
  run_ends {p} r e = sym (r.same ∙ run_stop bs m _ p e)

-- a walk over arrays has passed some and stands at p
pub record Arrays (bs : List ℕ) (from p passed : ℕ) : Type 0 where
  pub behind : from + passed ≤ p
  pub end : arrays_end bs (record_count bs) from ≡ arrays_end bs (record_count bs - passed) p
  pub count : length (arrays_from bs (record_count bs) from) ≡ passed + length (arrays_from bs (record_count bs - passed) p)

module _ {bs : List ℕ} {from : ℕ} where
  pub arrays-start : Arrays bs from from 0
  arrays-start =
      record {
        behind = omega arith;
        end = ap (λ (k : ℕ). arrays_end bs k from) (omega arith);
        count = ap (λ (k : ℕ). length (arrays_from bs k from)) {y = record_count bs - 0} (omega arith) ∙ omega arith;
      }

  pub arrays-go-on : {p passed next : ℕ} → Arrays bs from p passed → p < record_count bs → marked bs AR p ≡ true → next ≡ p + 1 + nat_abs (y_at bs p)
      → Arrays bs from next (passed + 1)
  unfolding behind_array
  arrays-go-on {p} {passed} {next} a h e n =
      record {
        behind = omega (arith, n, a.behind);
        end = a.end ∙ arrays-end-on bs _ (record_count bs - (passed + 1)) p fuel e ∙ ap (arrays_end bs (record_count bs - (passed + 1))) here;
        count =
            a.count ∙ ap (λ (l : List ℕ). passed + length l) (arrays-on bs _ (record_count bs - (passed + 1)) p fuel e)
            ∙ ap (λ (q : ℕ). passed + suc (length (arrays_from bs (record_count bs - (passed + 1)) q))) here
            ∙ omega arith;
      }
    where
      fuel : record_count bs - passed ≡ suc (record_count bs - (passed + 1))
      fuel = omega (arith, a.behind)

      here : suc p + nat_abs (y_at bs p) ≡ next
      here = omega (arith, n)

  pub arrays-end : {p passed : ℕ} → Arrays bs from p passed → marked bs AR p ≡ false → record { end = p; count = passed } ≡ array_run_of bs from
  unfolding array_run_of
  arrays-end {p} {passed} a e = λ i. record { end = end i; count = count i }
    where
      end : p ≡ arrays_end bs (record_count bs) from
      end = sym (a.end ∙ arrays-end-stop bs (record_count bs - passed) p e)

      count : passed ≡ length (arrays_from bs (record_count bs) from)
      count = sym (a.count ∙ ap (λ (l : List ℕ). passed + length l) (arrays-stop bs (record_count bs - passed) p e) ∙ add-zero passed)
