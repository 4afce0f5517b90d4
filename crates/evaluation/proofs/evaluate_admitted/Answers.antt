-- `evaluation::evaluate_admitted` meets its contract.
use mathlib.Core.Path.{refl, sym}
use native.Mathlib.Omega.{arith}
use Rattle.std.proofs.lemmas.List.{length-take, length-take-le}
use Rattle.answers.proofs.Declared.{length-constraints}
use Rattle.layout.proofs.Tables.{passed-in}
use Rattle.constraints.proofs.Found.{verdicts_found, verdicts_missing}
use Rattle.evaluation.proofs.Outcomes.{few-constraints, refused-limit, written}
use Rattle.evaluation.proofs.evaluate_admitted.Goals as goal

pub fill-requires-clause-table_len_bound : goal.fill-requires-clause-table_len_bound
fill-requires-clause-table_len_bound c = (passed-in c.args.table.now).short

pub returns-in-None : goal.returns-in-None
returns-in-None c = refused-limit _ _ _ _ (verdicts_missing _ _ _ (rw c.new-prepared.ensures at c.constraint_values.ensures) c.in-None.is)

pub slice_bounds-write-end : goal.slice_bounds-write-end
slice_bounds-write-end c =
    let f = verdicts_found _ _ _ c.constraint_values.ensures c.in-Some.is in
    sym (length-take-le _ _ (omega (arith, few-constraints c.args.table.now, f.long c.new-prepared.result.checked.sound)))

pub write-requires : goal.write-requires
write-requires c = omega (arith, length-take c.constraint_count-written.result c.in-Some.found.bytes, length-constraints c.args.table.now.bytes.now)

pub overflow_cast-result : goal.overflow_cast-result
overflow_cast-result c = omega (arith, few-constraints c.args.table.now)

pub returns-in-Some : goal.returns-in-Some
returns-in-Some c =
    let f = verdicts_found _ _ _ (rw c.new-prepared.ensures at c.constraint_values.ensures) c.in-Some.is in
    written _ _ _ _ f c.requires.steps_value c.constraint_count-written.ensures refl c.write.ensures
