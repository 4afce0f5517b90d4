-- `translator::tables::rows` meets its contract.
use mathlib.Core.Path.{refl}
use Rattle.translator.specs.Plans.{rule_rows}
use Rattle.translator.proofs.tables.rows.Goals as goal

pub returns : goal.returns
unfolding rule_rows
returns c = refl
