-- Boolean operations on what the walk met, each by the language's own operation on values.
-- Internal: a contract behind the public ones; no public promise cites it.
use Rattle.std.specs.Prelude.{◌&&◌}
use Rattle.std.proofs.Math.Option.{some}
use Rattle.language.specs.Syntax as syntax
use Rattle.language.specs.Readings.{both, comparison, connective, atomic, opposite}
use Rattle.language.specs.Readings as readings
use Rattle.operations.specs.declared.values.Walked.{Walked}
use Rattle.operations.specs.declared.truths.Comparison.{Comparison}
use Rattle.operations.specs.declared.truths.Comparison.TheVariants.{Equal, Unequal, AtMost, Below}
use Rattle.operations.specs.declared.truths.Connective.{Connective}
use Rattle.operations.specs.declared.truths.Connective.TheVariants.{And, Or, Implies, Iff}
use Rattle.operations.specs.Values.{integer_of, truth_of, truth_to}

abbrev pub comparison_of : Comparison → syntax.Comparison
comparison_of Equal = syntax.equal
comparison_of Unequal = syntax.unequal
comparison_of AtMost = syntax.at_most
comparison_of Below = syntax.below

abbrev pub connective_of : Connective → syntax.Connective
connective_of And = syntax.conj
connective_of Or = syntax.disj
connective_of Implies = syntax.implies
connective_of Iff = syntax.iff

unfoldable pub compared : readings.Reading → syntax.Comparison → Walked → Walked → Walked
compared ρ c a b =
    truth_to (a.within && b.within) (atomic ρ (both (λ x y. some (comparison c x y)) (integer_of a.value) (integer_of b.value)))

unfoldable pub connected : readings.Reading → syntax.Connective → Walked → Walked → Walked
connected ρ c a b = truth_to (a.within && b.within) (connective ρ c (truth_of a.value) (truth_of b.value))

unfoldable pub opposed : Walked → Walked
opposed a = truth_to a.within (opposite (truth_of a.value))
