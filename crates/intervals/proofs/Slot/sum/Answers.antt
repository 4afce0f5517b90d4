-- `intervals::Slot::sum` meets its contract.
use Rattle.std.proofs.Common.{arith, rules}
use Rattle.std.proofs.lemmas.Int.{to_z-of_z}
use Rattle.intervals.specs.Spans.{as_slot}
use Rattle.intervals.proofs.Spans.{to-cong, count-≤, repeats-fits}
use Rattle.intervals.proofs.Slot.sum.Goals as goal

pub overflow_cast-n : goal.overflow_cast-n
overflow_cast-n c = let n = count-≤ (as_slot c.args.self) (search rules) (search rules) in record { sfits = grind (arith, to_z-of_z) }

pub overflow_mul-result : goal.overflow_mul-result
overflow_mul-result c = let n = count-≤ (as_slot c.args.self) (search rules) (search rules) in grind (arith, to_z-of_z, repeats-fits)

pub overflow_mul-result-2 : goal.overflow_mul-result-2
overflow_mul-result-2 c = let n = count-≤ (as_slot c.args.self) (search rules) (search rules) in grind (arith, to_z-of_z, repeats-fits)

pub returns : goal.returns
returns c = let n = count-≤ (as_slot c.args.self) (search rules) (search rules) in to-cong (grind (arith, to_z-of_z, repeats-fits)) (grind (arith, to_z-of_z, repeats-fits))
