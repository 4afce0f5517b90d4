-- `declarations::few_values` meets its contract.
use Rattle.std.proofs.Common.{arith}
use Rattle.std.proofs.lemmas.Int.{ints}
use Rattle.language.specs.Meaning.{count}
use Rattle.declarations.proofs.few_values.Goals as goal

pub returns : goal.returns
unfolding count
returns c = grind (arith, ints)
