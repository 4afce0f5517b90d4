-- `table::record_count` meets its contract.
use mathlib.Core.Path.{refl}
use Rattle.table.specs.Records.{record_size, record_count}
use Rattle.table.proofs.record_count.Goals as goal

pub returns : goal.returns
unfolding record_count record_size
returns c = refl
