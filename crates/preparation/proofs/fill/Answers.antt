-- `preparation::fill` meets its contract.
use mathlib.Core.Path.{ap₂, ap, ◌∙◌}
use mathlib.Core.List.{◌++◌}
use lib.ListN.{length, drop}
use Rattle.std.proofs.lemmas.List.{drop-replicate}
use Rattle.preparation.specs.Prepared.{padded}
use Rattle.preparation.proofs.fill.Goals as goal

pub returns : goal.returns
unfolding padded
returns c = ap₂ ◌++◌ c.copy_from_slice.ensures.after (ap (drop (length c.args.table.now)) c.requires.t_value ∙ drop-replicate _ _ 0)
