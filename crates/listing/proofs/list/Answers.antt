-- `list`: the lines of the table that the translation wrote, or the line of its refusal.
use Rattle.std.proofs.Common.{ℕ, List, ◌++◌, length, drop, refl, ap, ◌∙◌, arith}
use Rattle.std.proofs.lemmas.List.{length-replicate}
use Rattle.table.specs.Records.{record_size, record_count}
use Rattle.answers.specs.Answers.{done, refused}
use Rattle.translation.specs.Results.{answer_of}
use Rattle.translation.proofs.Numbers.{refusal-above}
use Rattle.listing.proofs.Told.{lines-told, refusal-told, answer-within}
use Rattle.listing.proofs.list.Goals as goal

pub put_lines-requires-clause-count_bound : goal.put_lines-requires-clause-count_bound
unfolding answer_of done record_count record_size
put_lines-requires-clause-count_bound c = let h = answer-within _ _ _ c.in-Ok.ensures in omega (arith, h)

pub put_lines-requires-clause-count_in_bounds : goal.put_lines-requires-clause-count_in_bounds
unfolding answer_of done
put_lines-requires-clause-count_in_bounds c = let h = answer-within _ _ _ c.in-Ok.ensures in omega (arith, h, c.translate.auto.out ∙ length-replicate {A = ℕ} 60_000 0)

pub returns-in-Ok-clause-value : goal.returns-in-Ok-clause-value
unfolding answer_of done record_size
returns-in-Ok-clause-value c = c.put_lines.ensures.value ∙ ap length (lines-told _ _ c.in-Ok.ensures refl refl ∙ c.choice_and_table-choice.ensures)

pub returns-in-Ok-clause-text_after : goal.returns-in-Ok-clause-text_after
unfolding answer_of done record_size
returns-in-Ok-clause-text_after c =
    let text = lines-told _ _ c.in-Ok.ensures refl refl ∙ c.choice_and_table-choice.ensures in
    c.put_lines.ensures.text_after ∙ ap (λ (l : List ℕ). l ++ drop c.put_lines.result c.args.text.now) text

pub returns-in-Err-clause-value : goal.returns-in-Err-clause-value
unfolding answer_of refused
returns-in-Err-clause-value c =
    let text = refusal-told _ _ c.in-Err.ensures (λ z. omega (arith, refusal-above c.in-Err.refusal, z, c.number.ensures)) c.number.ensures c.«record».ensures ∙ c.choice_and_table-choice.ensures in
    ap length (c.as_bytes-line.ensures.value ∙ c.of_refusal-line.ensures.value ∙ text)

pub returns-in-Err-clause-text_after : goal.returns-in-Err-clause-text_after
unfolding answer_of refused
returns-in-Err-clause-text_after c =
    let text = refusal-told _ _ c.in-Err.ensures (λ z. omega (arith, refusal-above c.in-Err.refusal, z, c.number.ensures)) c.number.ensures c.«record».ensures ∙ c.choice_and_table-choice.ensures in
    ap (λ (l : List ℕ). l ++ drop (length c.as_bytes-line.result.now) c.args.text.now) (c.copy_from_slice.ensures.after ∙ c.as_bytes-line.ensures.value ∙ c.of_refusal-line.ensures.value ∙ text)
