-- `translation::length` meets its contract.
use mathlib.Core.Path.{◌∙◌}
use Rattle.translation.proofs.Numbers.{unwrapped}
use Rattle.translation.proofs.length.Goals as goal

pub returns : goal.returns
returns c = c.unwrap_or.ensures ∙ unwrapped c.args.given
