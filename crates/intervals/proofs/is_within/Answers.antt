-- `intervals::is_within` meets its contract.
use Rattle.std.proofs.Common.{◌∙◌, w64}
use Rattle.std.proofs.lemmas.Int.{to_z-of_z}
use Rattle.intervals.proofs.Spans.{range-limit}
use Rattle.intervals.proofs.is_within.Goals as goal

pub returns : goal.returns
returns c = let f = c.new.ensures in c.contains.ensures.value ∙ rw (f.start, f.end, f.exhausted, to_z-of_z w64 c.args.z c.ranges.z) (range-limit c.args.z)
