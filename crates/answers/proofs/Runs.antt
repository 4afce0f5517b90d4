-- A section of records with one mark: what `run_end` finds, said without it, and that this determines it.
use mathlib.Core.Path.{◌≡◌, refl}
use Prim.Native.Nat.{ℕ, zero, suc, ◌+◌, ◌≤◌, ◌<◌}
use native.Mathlib.Omega.{arith}
use native.Mathlib.Decide.{dec_lt, dec_le}
use mathlib.Core.Bool.{Bool, true, false, not}
use mathlib.Core.List.{List}
use lib.Dec.{T, T_not, not_T}
use Rattle.table.specs.Records.{Mark, marked}
use Rattle.answers.specs.Sections.{run_end}

-- The records from p up to e have the mark m, and e has it not.
pub record Run (bs : List ℕ) (m : Mark) (p e : ℕ) : Type 0 where
  pub ordered : p ≤ e
  pub inside : (k : ℕ) → p ≤ k → k < e → T (marked bs m k)
  pub behind : T (not (marked bs m e))

module _ (bs : List ℕ) (m : Mark) where
  -- A run may begin one record earlier.
  Run-cons : {p e : ℕ} → T (marked bs m p) → Run bs m (suc p) e → Run bs m p e
  Run-cons {p} {e} t r =
      record { ordered = omega (arith, r.ordered); inside = λ k l h. go k h (dec_lt p k) l; behind = r.behind }
    where
      go : (k : ℕ) → k < e → Dec (p < k) → p ≤ k → T (marked bs m k)
      go k h (yes b) l = r.inside k b h
      go k h (no b) l = let same : k ≡ p = omega arith in rw same t

  -- What `run_end` finds is a run, if it has enough records to look at.
  pub run_end-Run : (more p : ℕ) → ((k : ℕ) → T (marked bs m k) → k < p + more) → Run bs m p (run_end bs m more p)
  unfolding run_end
  run_end-Run zero p within =
      record { ordered = omega arith; inside = λ k l h. absurd (omega arith); behind = not_T (marked bs m p) (λ t. omega (arith, within p t)) }
  run_end-Run (suc more) p within = go (marked bs m p) refl (run_end-Run more (suc p) (λ k t. omega (arith, within k t)))
    where
      go : (b : Bool) → marked bs m p ≡ b → Run bs m (suc p) (run_end bs m more (suc p))
          → Run bs m p (elim b [ true ↦ run_end bs m more (suc p) | false ↦ p ])
      go true e r = Run-cons (rw e tt) r
      go false e r = record { ordered = omega arith; inside = λ k l h. absurd (omega arith); behind = rw e tt }

  -- A run is what `run_end` finds, if it has enough records to look at.
  pub Run→run_end : (more : ℕ) {p e : ℕ} → Run bs m p e → e ≤ p + more → run_end bs m more p ≡ e
  unfolding run_end
  Run→run_end zero {p} {e} r h = omega (arith, r.ordered)
  Run→run_end (suc more) {p} {e} r h = go (marked bs m p) refl (λ rest. Run→run_end more rest (omega arith))
    where
      later : T (marked bs m p) → p < e
      later t = elim (dec_lt p e) [ yes b ↦ b | no b ↦ (let same : p ≡ e = omega (arith, r.ordered) in absurd (T_not (marked bs m p) (rw (← same) at r.behind) t)) ]

      go : (b : Bool) → marked bs m p ≡ b → (Run bs m (suc p) e → run_end bs m more (suc p) ≡ e)
          → elim b [ true ↦ run_end bs m more (suc p) | false ↦ p ] ≡ e
      go true q rest = rest (record { ordered = later (rw q tt); inside = λ k l b. r.inside k (omega arith) b; behind = r.behind })
      go false q rest = elim (dec_le e p) [ yes b ↦ omega (arith, r.ordered) | no b ↦ absurd (rw q at (r.inside p (omega arith) (omega arith))) ]
