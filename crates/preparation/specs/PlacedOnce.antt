-- There is one proof at most that places are those of a table's sections.
-- Internal: a contract behind the public ones; no public promise cites it.
use Rattle.std.specs.Prelude.{ℕ, List}
use Rattle.std.proofs.Props.{props}
use Rattle.evaluator.specs.declared.places.TablePlaces.{TablePlaces}
use Rattle.preparation.specs.Prepared.{PlacesOf}

pub PlacesOf-prop : (bs : List ℕ) (places : TablePlaces) → IsProp (PlacesOf bs places)
PlacesOf-prop bs places = Prim.hlevel props
