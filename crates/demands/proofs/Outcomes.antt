-- The outcome of the first fault in an order: what follows for the answer and the lent bytes.
use mathlib.Core.Path.{◌≡◌, refl, sym, ap, ◌∙◌}
use Prim.Native.Nat.{ℕ, ◌≤◌}
use native.Mathlib.Omega.{arith}
use mathlib.Core.Bool.{false}
use mathlib.Core.List.{List, []}
use mathlib.Core.Option.{Option, none, some, some-ne-none, some-injective}
use lib.Dec.{T, leb, leb→le}
use Rattle.numbers.proofs.Tests.{&&-fst, &&-snd}
use Rattle.answers.specs.Check.{Refusal, first, check_order, check_fault}
use Rattle.answers.specs.Answers as Answers
use Rattle.answers.specs.Answers.{Answer, refused, done, outcome}
use Rattle.demands.specs.Demands.{Answered, AnsweredWith}
use Rattle.answers.proofs.Numbers.{up_to, Numbered}

-- The check gives its first fault, or is done.
pub check-is : (table : List ℕ) → Answers.check table ≡ (outcome (first (check_order table)) (done 0 0 false) [] []).answer
unfolding Answers.check check_fault outcome
check-is table = go (first (check_order table))
  where
    go : (f : Option Refusal) → elim f [ none ↦ done 0 0 false | some r ↦ refused r ] ≡ (outcome f (done 0 0 false) [] []).answer
    go none = refl
    go (some r) = refl

-- ---- answers

-- a number that passes the test lies between its ends
up_to→≤ : (most n : ℕ) → T (up_to most n) → (1 ≤ n) × (n ≤ most)
up_to→≤ most n t = (leb→le 1 n (&&-fst (leb 1 n) (leb n most) t), leb→le n most (&&-snd (leb 1 n) (leb n most) t))

module _ (most : ℕ) (faults : List (Option Refusal)) where
  -- The outcome of the first fault is the answer that demand 1 asks for.
  pub outcome-answered : (f : Option Refusal) → first faults ≡ f → Numbered (up_to most) f → (a : Answer) → a.number ≡ 0 → (new lent : List ℕ)
      → AnsweredWith most faults lent (outcome f a new lent)
  unfolding outcome
  outcome-answered none e h a z new lent =
      record {
        answer = record {
          refused_first = λ r q. absurd (some-ne-none r (sym q ∙ e));
          done_if_none = λ q. z;
          refused_not_0 = λ r q. absurd (some-ne-none r (sym q ∙ e));
        };
        unchanged = λ n. absurd (n z);
      }
  outcome-answered (some x) e h a z new lent =
      record {
        answer = record {
          refused_first = λ r q. ap refused (some-injective x r (sym e ∙ q));
          done_if_none = λ q. absurd (some-ne-none x (sym e ∙ q));
          refused_not_0 = λ r q. rw (← some-injective x r (sym e ∙ q)) (up_to→≤ most x.number h);
        };
        unchanged = λ n. refl;
      }

  -- A call that answers 0 has no fault.
  pub number-0→none : (a : Answer) → Answered most faults a → a.number ≡ 0 → first faults ≡ none
  unfolding refused
  number-0→none a h z = go (first faults) refl
    where
      go : (f : Option Refusal) → first faults ≡ f → first faults ≡ none
      go none e = e
      go (some r) e = absurd (omega (arith, (h.refused_not_0 r e).0, ap (λ (a : Answer). a.number) (h.refused_first r e), z))
