-- An answer of the check tells its fault: the public check's promise, read as what the calls behind it rely on.
use mathlib.Core.Path.{◌≡◌, refl, ap}
use Prim.Native.Nat.{ℕ}
use native.Mathlib.Omega.{arith}
use mathlib.Core.Bool.{false}
use Rattle.std.specs.Prelude.{Result, Ok, Err}
use mathlib.Core.List.{List}
use mathlib.Core.Option.{Option, none, some}
use Rattle.answers.specs.Check.{Refusal, check_fault}
use Rattle.answers.specs.Answers as Answers
use Rattle.answers.specs.Answers.{Answer, done, refused}
use Rattle.answers.proofs.Numbers.{up_to, up_to→1≤, Numbered, Numbered-check}
use Rattle.verdict.specs.declared.Fault.{Fault}
use Rattle.verdict.specs.declared.Fault.TheVariants.{BadLength, Misplaced, NotAllowed, NamesNothing, WrongType, OpenConstraint}
use Rattle.verdict.specs.Results.{number_and_record, refusal_of, answer_of}
use Rattle.verdict.proofs.Soundness.{sound_none}

fault-numbered : (f : Fault) → Numbered (up_to 6) (some (number_and_record f))
fault-numbered BadLength = tt
fault-numbered (Misplaced k) = tt
fault-numbered (NotAllowed k) = tt
fault-numbered (NamesNothing k) = tt
fault-numbered (WrongType k) = tt
fault-numbered (OpenConstraint k) = tt

refusal_of-numbered : (c : Result Unit Fault) → Numbered (up_to 6) (refusal_of c)
refusal_of-numbered (Ok u) = tt
refusal_of-numbered (Err f) = fault-numbered f

-- what the check answers for a fault
abbrev told : Option Refusal → Answer
told o = elim o [ none ↦ done 0 0 false | some r ↦ refused r ]

-- Answers that are the same tell the same fault.
told-injective : (o p : Option Refusal) → Numbered (up_to 6) o → Numbered (up_to 6) p → told o ≡ told p → o ≡ p
unfolding done refused
told-injective none none a b e = refl
told-injective none (some r) a b e = absurd (omega (arith, up_to→1≤ 6 {n = r.number} b, ap (λ (x : Answer). x.number) e))
told-injective (some r) none a b e = absurd (omega (arith, up_to→1≤ 6 {n = r.number} a, ap (λ (x : Answer). x.number) e))
told-injective (some r) (some q) a b e = same r q (ap (λ (x : Answer). x.number) e) (ap (λ (x : Answer). x.at) e)
  where
    same : (r q : Refusal) → r.number ≡ q.number → r.at ≡ q.at → some r ≡ some q
    same r q m n = λ i. some (record { number = m i; at = n i })

-- The check's answer tells the table's fault.
pub answered→fault : (bs : List ℕ) (c : Result Unit Fault) → answer_of c ≡ Answers.check bs → refusal_of c ≡ check_fault bs
unfolding answer_of Answers.check
answered→fault bs c e = told-injective (refusal_of c) (check_fault bs) (refusal_of-numbered c) (Numbered-check (up_to 6) tt tt tt tt tt tt bs) e

-- A table that the check passes has no fault.
pub sound→checked : (table : List ℕ) (c : Result Unit Fault) {u : Unit {0}} → answer_of c ≡ Answers.check table → c ≡ Ok u → check_fault table ≡ none
sound→checked table c e p = sound_none (answered→fault table c e) p
