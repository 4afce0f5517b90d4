-- What the outcome of a part of the check says of the table's fault.
use mathlib.Core.Path.{◌≡◌, refl, sym, ap, ◌∙◌}
use mathlib.Core.Option.{Option, none, some, some-ne-none, or_else}
use Prim.Native.Nat.{ℕ, ◌+◌, ◌<◌}
use native.Mathlib.Omega.{arith}
use Rattle.std.specs.Prelude.{Result, Ok, Err}
use Rattle.answers.specs.Check.{Refusal, refuse, first_fault}
use Rattle.answers.proofs.Faults.{unmapped, first_fault-none, first-refusal}
use Rattle.verdict.specs.declared.Fault.{Fault}
use Rattle.verdict.specs.Results.{fault_at, refusal_of}
use Rattle.verdict.specs.FirstFaults.{FirstFaultOf}

-- no fault where the part passes
pub sound_none : {c : Result Unit Fault} {u : Unit {0}} {o : Option Refusal} → refusal_of c ≡ o → c ≡ Ok u → o ≡ none
sound_none e p = sym e ∙ ap refusal_of p

-- and else the first fault decides
pub unsound_first : {c : Result Unit Fault} {f : Fault} {o : Option Refusal} (rest : Option Refusal) → refusal_of c ≡ o → c ≡ Err f → refusal_of (Err f) ≡ or_else o rest
unfolding or_else
unsound_first rest e p = rw (sym e ∙ ap refusal_of p)

-- a number at its record, and no fault
pub refused_at : (p : ℕ) {n : ℕ} {own : Option ℕ} → own ≡ some n → refuse n p ≡ fault_at p own
refused_at p e = rw e

pub sound-at : (p : ℕ) {own : Option ℕ} → own ≡ none → none ≡ fault_at p own
sound-at p e = rw e

pub no_fault : (p : ℕ) (own : Option ℕ) {r : Option Refusal} → r ≡ fault_at p own → r ≡ none → own ≡ none
no_fault p own e f = unmapped _ own (sym e ∙ f)

-- where check i finds the fault of thing i, all of them find the first fault
pub first_found : (own : ℕ → Option ℕ) (from : ℕ) {count : ℕ} {gives : ℕ → Result Unit Fault → Type 0} {r : Result Unit Fault}
    → FirstFaultOf gives count r → ((i : ℕ) (one : Result Unit Fault) → i < count → gives i one → refusal_of one ≡ fault_at (from + i) (own i))
    → refusal_of r ≡ first_fault own from count
first_found own from {count = count} {r = Ok u} found each =
    sym (first_fault-none own from count (λ k l. no_fault _ _ (each k (Ok tt) l (found.passed refl k l)) refl))
first_found own from {count = count} {r = Err f} found each =
    let at = found.failed f refl in
    let before : first_fault own from at.0 ≡ none =
    first_fault-none own from at.0 (λ k b. no_fault _ _ (each k (Ok tt) (omega (arith, b, at.1)) (at.2 k b)) refl) in
    first-refusal own from at.0 count before at.1 (each at.0 (Err f) at.1 at.3) (some-ne-none _)
