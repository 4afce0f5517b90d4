-- The bytes that a call writes: which verdict stands where, when all are 1, and what is left as it was.
use mathlib.Core.Path.{◌≡◌, refl, sym, ◌∙◌}
use Prim.Native.Nat.{ℕ, zero, suc, ◌<◌}
use native.Mathlib.Nat.{not-suc-le-zero, le_of_suc-le-suc}
use native.Mathlib.Omega.{arith}
use mathlib.Core.Bool.{Bool, true, false, false≢true}
use mathlib.Core.List.{List, [], ◌∷◌, ◌++◌, map}
use mathlib.Core.Logic.{◌↔◌}
use mathlib.Core.Option.{Option, none, some, some-ne-none, some-injective}
use lib.Dec.{T, eqb}
use lib.ListN.{length, get_or, take, drop, length-map, get_or-append}
use lib.Seq.{take-append_seam, drop-append_seam}
use Rattle.numbers.proofs.Tests.{&&-fst, &&-snd}
use Rattle.language.specs.Readings.{Reading}
use Rattle.language.specs.Meaning.{Assignment}
use Rattle.rules.specs.TotalRows.{is_true}
use Rattle.answers.specs.Sections.{constraints}
use Rattle.answers.specs.Answers.{value_of_constraint, verdict, verdicts, all_one}
use Rattle.numbers.proofs.Lists.{get_d_map}
use Rattle.demands.specs.Demands.{constraint_at}

module _ (table : List ℕ) (ρ : Reading) (α : Assignment) where
  -- There are as many verdicts as constraints,
  pub length-verdicts : length (verdicts table ρ α) ≡ length (constraints table)
  unfolding verdicts
  length-verdicts = length-map (constraints table) _

  -- in the constraints' order.
  pub get_d_verdicts : (i : ℕ) → i < length (constraints table) → get_or (verdicts table ρ α) i 0 ≡ verdict (value_of_constraint table ρ α (constraint_at table i))
  unfolding verdicts constraint_at
  get_d_verdicts i l = get_d_map (λ k. verdict (value_of_constraint table ρ α k)) (constraints table) i 0 0 l

  -- A verdict is 1 exactly for true.
  one→true : (v : Option Bool) → T (eqb (verdict v) 1) → v ≡ some true
  one→true none t = absurd t
  one→true (some true) t = refl
  one→true (some false) t = absurd t

  -- the verdicts of a list of nodes
  abbrev verdicts_of : List ℕ → List ℕ
  verdicts_of ks = map (λ k. verdict (value_of_constraint table ρ α k)) ks

  -- If all are 1, all nodes are true,
  all-one→true : (ks : List ℕ) → T (all_one (verdicts_of ks)) → (i : ℕ) → i < length ks → value_of_constraint table ρ α (get_or ks i 0) ≡ some true
  unfolding all_one
  all-one→true [] t i l = absurd (not-suc-le-zero l)
  all-one→true (k ∷ ks) t zero l = one→true (value_of_constraint table ρ α k) (&&-fst (eqb (verdict (value_of_constraint table ρ α k)) 1) (all_one (verdicts_of ks)) t)
  all-one→true (k ∷ ks) t (suc i) l =
      all-one→true ks (&&-snd (eqb (verdict (value_of_constraint table ρ α k)) 1) (all_one (verdicts_of ks)) t) i (le_of_suc-le-suc l)

  -- and the other way round.
  true→all-one : (ks : List ℕ) → ((i : ℕ) → i < length ks → value_of_constraint table ρ α (get_or ks i 0) ≡ some true) → all_one (verdicts_of ks) ≡ true
  unfolding all_one
  true→all-one [] h = refl
  true→all-one (k ∷ ks) h = rw (h 0 (omega arith), true→all-one ks (λ i l. h (suc i) (omega arith))) refl

  -- All verdicts are 1 exactly if all constraints are true.
  pub all_one-verdicts : all_one (verdicts table ρ α) ≡ true ↔ ((i : ℕ) → i < length (constraints table) → value_of_constraint table ρ α (constraint_at table i) ≡ some true)
  unfolding verdicts constraint_at
  all_one-verdicts = (λ e. all-one→true (constraints table) (rw e tt), λ h. true→all-one (constraints table) h)

-- ---- what is written

module _ (new lent : List ℕ) where
  -- The bytes written stand from 0 on,
  pub take-written : take (length new) (new ++ drop (length new) lent) ≡ new
  take-written = take-append_seam new (drop (length new) lent)

  -- and the rest is as it was.
  pub drop-written : drop (length new) (new ++ drop (length new) lent) ≡ drop (length new) lent
  drop-written = drop-append_seam new (drop (length new) lent)

  pub get_d_written : (i : ℕ) → i < length new → get_or (new ++ drop (length new) lent) i 0 ≡ get_or new i 0
  get_d_written i l = get_or-append new (drop (length new) lent) 0 i l

-- True exactly where a value is true, and false elsewhere: true exactly when it is.
pub is_true-exactly : (v w : Option Bool) → w ≡ some (is_true v) → w ≡ some true ↔ v ≡ some true
unfolding is_true
is_true-exactly none w e = (λ p. absurd (some-false (sym e ∙ p)), λ p. absurd (some-ne-none true (sym p)))
  where
    some-false : some false ≡ some true → ⊥
    some-false p = false≢true (some-injective false true p)
is_true-exactly (some b) w e = (λ p. sym e ∙ p, λ p. e ∙ p)
