-- `translation::has_room` meets its contract: 12 times the records is within a size where they are within a twelfth of it.
use Rattle.numbers.specs.Limits.{most_bytes}
use Rattle.table.specs.Records.{record_size}
use Rattle.translation.proofs.Outcomes.{within-twelfth}
use Rattle.translation.proofs.has_room.Goals as goal

pub returns : goal.returns
unfolding record_size
returns c = rw (within-twelfth c.args.records c.args.room, within-twelfth c.args.records most_bytes)
