-- `table::record_at` meets its contract.
use mir.Syntax.{w32}
use mir.Facts.{to_z-of_z}
use borrow.Author.Rules.{sfits_of}
use mathlib.Core.Path.{◌∙◌}
use Rattle.table.specs.Records.{kind_at, aux_at, x_at, y_at, byte_at, record_size}
use Rattle.table.proofs.record_at.Goals as goal

pub returns : goal.returns
unfolding kind_at aux_at x_at y_at byte_at record_size
returns c = rw (to_z-of_z {w = w32} (sfits_of c.number_at.type_inv) ∙ c.number_at.ensures, to_z-of_z {w = w32} (sfits_of c.number_at-2.type_inv) ∙ c.number_at-2.ensures)
