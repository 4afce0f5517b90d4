-- The readings and the choice as the code holds them.
-- Internal: a contract behind the public ones; no public promise cites it.
use Rattle.std.specs.Prelude.{Result, Ok, Err}
use Rattle.std.proofs.Math.Option.{Option, none, some}
use Rattle.language.specs.Readings as Language
use Rattle.reading.specs.declared.BadChoice.{BadChoice}
use Rattle.reading.specs.declared.Reading.{Reading}
use Rattle.reading.specs.declared.Reading.TheVariants.{Strict, Kleene, Relational}

abbrev pub meant : Reading → Language.Reading
meant Strict = Language.strict
meant Kleene = Language.kleene
meant Relational = Language.relational

-- what a choice gives
abbrev pub meant_by : Result Reading BadChoice → Option Language.Reading
meant_by (Ok reading) = some (meant reading)
meant_by (Err refusal) = none
