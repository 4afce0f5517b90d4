-- `intervals::Ends::summed` meets its contract.
use Rattle.std.proofs.Common.{arith}
use Rattle.std.proofs.lemmas.Int.{to_z-of_z}
use Rattle.intervals.proofs.Spans.{to-cong, count-narrow, repeats-small}
use Rattle.intervals.proofs.Ends.summed.Goals as goal

pub overflow_mul-result : goal.overflow_mul-result
overflow_mul-result c = let n = count-narrow c.args.self c.requires.narrow in grind (arith, to_z-of_z, repeats-small)

pub overflow_mul-result-2 : goal.overflow_mul-result-2
overflow_mul-result-2 c = let n = count-narrow c.args.self c.requires.narrow in grind (arith, to_z-of_z, repeats-small)

pub returns : goal.returns
returns c = let n = count-narrow c.args.self c.requires.narrow in to-cong (grind (arith, to_z-of_z, repeats-small)) (grind (arith, to_z-of_z, repeats-small))
