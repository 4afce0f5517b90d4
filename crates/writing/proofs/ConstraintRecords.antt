-- The records of the constraints, one after the other.
use mathlib.Core.Path.{◌≡◌, refl, sym, ap, ◌∙◌}
use Prim.Native.Nat.{ℕ, ◌+◌, ◌-◌, ◌*◌}
use native.Mathlib.Omega.{arith}
use native.Mathlib.Numerals.{add-one}
use mathlib.Core.List.{List, [], ◌∷◌, ◌++◌, append_assoc, append-nil}
use lib.IntN.{nat_abs}
use lib.ListN.{length, get_or, length-append}
use lib.Seq.{sets}
use Rattle.language.specs.Readings.{Reading}
use Rattle.table.specs.Records.{CN, record_size, first_letter, second_letter, bits_of, record_bytes, x_at}
use Rattle.answers.specs.Sections.{listed, constraints_at, rest_at, constraint_count, constraints}
use Rattle.answers.specs.Answers.{translated, new_constraints}
use Rattle.answers.proofs.Listed.{length-listed}
use Rattle.answers.proofs.Declared as declared
use Rattle.table.specs.Marks.{mark_of}
use Rattle.table.specs.declared.Mark.TheVariants.{Constraint}
use Rattle.translator.specs.Cells.{record_of, bytes_of}
use Rattle.translator.proofs.Cells.{length-record_of}
use Rattle.numbers.proofs.Lists.{sets-++}
use Rattle.writing.specs.Constraints.{constraints_over}

module _ (firsts : List ℕ) where
  -- Constraints behind constraints.
  constraints_over-++ : (ks ls : List ℕ) → constraints_over firsts (ks ++ ls) ≡ constraints_over firsts ks ++ constraints_over firsts ls
  unfolding constraints_over
  constraints_over-++ [] ls = refl
  constraints_over-++ (k ∷ ks) ls = rw (constraints_over-++ ks ls, append_assoc)

  -- A record for each.
  length-constraints_over : (ks : List ℕ) → length (constraints_over firsts ks) ≡ record_size * length ks
  unfolding constraints_over record_size
  length-constraints_over [] = refl
  length-constraints_over (k ∷ ks) =
      length-append (record_of (first_letter CN) (second_letter CN) 0 (get_or firsts k 0) 0) (constraints_over firsts ks)
      ∙ omega (arith, length-constraints_over ks, length-record_of (first_letter CN) (second_letter CN) 0 (get_or firsts k 0) 0)

-- The constraints of the new table are those over the positions of P.
pub new_constraints-over : (bs : List ℕ) (ρ : Reading) (firsts : List ℕ) → ((k : ℕ) → get_or firsts k 0 ≡ get_or (translated bs ρ).firsts k 0) → (ks : List ℕ) → constraints_over firsts ks ≡ new_constraints bs ρ ks
unfolding constraints_over new_constraints record_bytes record_of bits_of
new_constraints-over bs ρ firsts h [] = refl
new_constraints-over bs ρ firsts h (k ∷ ks) = rw (h k, new_constraints-over bs ρ firsts h ks)

-- How many constraints there are.
pub length-constraints : (bs : List ℕ) → length (constraints bs) ≡ rest_at bs - constraints_at bs
unfolding constraint_count
length-constraints bs = declared.length-constraints bs

-- ---- one constraint more

module _ (bs firsts : List ℕ) (from : ℕ) where
  -- the bytes of the first i constraints
  abbrev pub records_of : ℕ → List ℕ
  records_of i = constraints_over firsts (listed i (λ j. nat_abs (x_at bs (constraints_at bs + j))))

  -- One more adds its record,
  records_of-more : (i : ℕ) → records_of (i + 1) ≡ records_of i ++ record_of (first_letter CN) (second_letter CN) 0 (get_or firsts (nat_abs (x_at bs (constraints_at bs + i))) 0) 0
  unfolding listed constraints_over
  records_of-more i =
      rw add-one
      (constraints_over-++ firsts (listed i (λ j. nat_abs (x_at bs (constraints_at bs + j)))) (nat_abs (x_at bs (constraints_at bs + i)) ∷ [])
      ∙ ap (λ l. records_of i ++ l) (simp append-nil))

  -- and a record's bytes.
  length-records_of : (i : ℕ) → length (records_of i) ≡ record_size * i
  length-records_of i = length-constraints_over firsts (listed i (λ j. nat_abs (x_at bs (constraints_at bs + j)))) ∙ ap (λ n. record_size * n) (length-listed i _)

  -- Nothing is put at first,
  pub none-put : (o : List ℕ) → o ≡ sets o (record_size * from) (records_of 0)
  unfolding listed constraints_over
  none-put o = refl

  -- all constraints at last,
  pub all-put : (o : List ℕ) {out : List ℕ} {i : ℕ} → i ≡ rest_at bs - constraints_at bs → out ≡ sets o (record_size * from) (records_of i) → out ≡ sets o (record_size * from) (constraints_over firsts (constraints bs))
  unfolding constraints constraint_count
  all-put o e f = f ∙ rw e

  -- and one more at each turn.
  pub one-more-put : (o : List ℕ) {out new : List ℕ} (i : ℕ) {x p : ℕ} → out ≡ sets o (record_size * from) (records_of i) → x ≡ nat_abs (x_at bs (constraints_at bs + i)) → p ≡ get_or firsts x 0 → new ≡ sets out (12 * (from + i)) (bytes_of (record { mark = Constraint; kind = 0; x = p; y = 0 })) → new ≡ sets o (record_size * from) (records_of (i + 1))
  unfolding record_size first_letter second_letter bytes_of mark_of
  one-more-put o {out} {new} i {x} {p} e f g h =
      h ∙ rw (e, g, f)
      (ap (λ k. sets (sets o (12 * from) (records_of i)) k (record_of 67 78 0 (get_or firsts (nat_abs (x_at bs (constraints_at bs + i))) 0) 0)) (omega (arith, length-records_of i))
      ∙ sym (sets-++ o (12 * from) (records_of i) (record_of 67 78 0 (get_or firsts (nat_abs (x_at bs (constraints_at bs + i))) 0) 0))
      ∙ ap (sets o (12 * from)) (sym (records_of-more i)))
