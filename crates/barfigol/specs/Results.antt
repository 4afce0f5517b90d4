-- What C gets back, as document 01's answer.
use Rattle.std.specs.Prelude.{ℕ, List}
use Rattle.answers.specs.Answers as Answers
use Rattle.answers.specs.Answers.{Outcome}
use Rattle.barfigol.specs.declared.Answer.{Answer}

abbrev pub answer_of : Answer → Answers.Answer
answer_of a =
    record { number = a.number; at = a.«record»; steps = a.steps; length_written = a.length; all_true = a.all_true }

-- the answer and the lent bytes after the call
abbrev pub outcome_of : Answer → List ℕ → Outcome
outcome_of a lent = record { answer = answer_of a; lent = lent }
