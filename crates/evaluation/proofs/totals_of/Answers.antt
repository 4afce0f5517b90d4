-- `evaluation::totals_of` meets its contract.
use mathlib.Core.Path.{◌≡◌}
use borrow.Author.Rules.{rules}
use Rattle.std.specs.Prelude.{false, Result, Ok, Err}
use Rattle.std.specs.Result.{ResultUnwrapsOrElse}
use Rattle.answers.specs.Answers.{done, refused}
use Rattle.evaluation.specs.declared.Refusal.{Refusal}
use Rattle.evaluation.specs.declared.Totals.{Totals}
use Rattle.evaluation.specs.Results.{answer_of}
use Rattle.evaluation.proofs.totals_of.Goals as goal

unwrapped : (D : Totals → Type 0) {t : Totals} (r : Result Totals Refusal) → ResultUnwrapsOrElse r D t → (D t → t ≡ record { steps = 0; written = 0; all = false })
    → t ≡ record { steps = (answer_of r).steps; written = (answer_of r).length_written; all = (answer_of r).all_true }
unfolding answer_of done refused
unwrapped D (Ok totals) h z = h
unwrapped D (Err refusal) h z = z h

pub returns : goal.returns
returns c = let e = unwrapped _ c.args.given c.unwrap_or_default.ensures (λ d. search rules) in record { steps_value = rw e; written_value = rw e; all_value = rw e }
