-- An answer in numbers, with the lent bytes after the call.
use mathlib.Core.Path.{◌≡◌, refl, ap, ◌∙◌}
use Prim.Native.Nat.{ℕ}
use mathlib.Core.Bool.{false}
use mathlib.Core.List.{List}
use Rattle.std.specs.Prelude.{Result, Ok, Err}
use Rattle.std.specs.Result.{MatchResult, IsOkAnd}
use Rattle.answers.specs.Answers.{Answer, Outcome}
use Rattle.verdict.specs.declared.Fault.{Fault}
use Rattle.verdict.specs.Results as Verdict
use Rattle.verdict.specs.Results.{number_and_record}
use Rattle.evaluation.specs.declared.Totals.{Totals}
use Rattle.evaluation.specs.declared.Refusal.{Refusal}
use Rattle.evaluation.specs.Results as Evaluated
use Rattle.translation.specs.declared.Refusal as Translation
use Rattle.translation.specs.Results as Translated
use Rattle.barfigol.specs.Given.{answer_in}

-- The same answer and the same bytes are the same outcome.
pub told : {a b : Answer} {lent : List ℕ} {o : Outcome} → a ≡ b → record { answer = b; lent = lent } ≡ o → record { answer = a; lent = lent } ≡ o
told {lent = lent} e q = ap (λ (x : Answer). record { answer = x; lent = lent }) e ∙ q

-- What an evaluation gives.
pub evaluated : (r : Result Totals Refusal) → answer_in Evaluated.number_and_record r ≡ Evaluated.answer_of r
unfolding Evaluated.answer_of
evaluated (Ok totals) = refl
evaluated (Err refusal) = refl

-- What a check gives, and a translation: where it is done, what has nothing else to say.
pub checked : (D : Unit {0} → Totals → Type 0) (r : Result Unit Fault) (m : Result Totals Fault) → MatchResult r (λ x. IsOkAnd m (D x)) (λ e. m ≡ Err e)
    → ((x : Unit {0}) (t : Totals) → D x t → t ≡ record { steps = 0; written = 0; all = false }) → answer_in number_and_record m ≡ Verdict.answer_of r
unfolding Verdict.answer_of
checked D (Ok x) (Ok t) h d = rw (d x t h)
checked D (Ok x) (Err e) h d = absurd h
checked D (Err e) m h d = rw h

pub translated : (D : ℕ → Totals → Type 0) (r : Result ℕ Translation.Refusal) (m : Result Totals Translation.Refusal) → MatchResult r (λ x. IsOkAnd m (D x)) (λ e. m ≡ Err e)
    → ((x : ℕ) (t : Totals) → D x t → t ≡ record { steps = 0; written = x; all = false }) → answer_in Translated.number_and_record m ≡ Translated.answer_of r
unfolding Translated.answer_of
translated D (Ok x) (Ok t) h d = rw (d x t h)
translated D (Ok x) (Err e) h d = absurd h
translated D (Err e) m h d = rw h
