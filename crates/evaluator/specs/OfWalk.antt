-- What a walk gives, by what it goes by.
-- Internal: a contract behind the public ones; no public promise cites it.
use Rattle.std.specs.Prelude.{ℕ, List, ℤ}
use Rattle.language.specs.Syntax as syntax
use Rattle.language.specs.Syntax.{Declarations}
use Rattle.language.specs.Readings as readings
use Rattle.reading.specs.Readings.{meant}
use Rattle.operations.specs.declared.values.Walked.{Walked}
use Rattle.evaluator.specs.declared.places.Walk.{Walk}
use Rattle.evaluator.specs.Walks as walks

module _ (w : Walk) where
  abbrev pub reads : readings.Reading
  reads = meant w.reading

  abbrev pub declares : Declarations
  declares = walks.declared w.table.now w.places.now

  abbrev pub integer_at : List ℤ → ℕ → Walked
  integer_at = walks.integer_at (meant w.reading) w.table.now w.places.now w.assignment.now

  abbrev pub truth_at : List ℤ → ℕ → Walked
  truth_at = walks.truth_at (meant w.reading) w.table.now w.places.now w.assignment.now

  abbrev pub sum_at : List ℤ → ℕ → ℕ → Walked
  sum_at = walks.sum_at (meant w.reading) w.table.now w.places.now w.assignment.now

  abbrev pub quantified_at : List ℤ → syntax.Quantifier → ℕ → ℕ → Walked
  quantified_at = walks.quantified_at (meant w.reading) w.table.now w.places.now w.assignment.now
