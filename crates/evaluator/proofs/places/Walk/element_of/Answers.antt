-- `evaluator::places::Walk::element_of` meets its contract, by the index's case.
use borrow.Author.Rules.{rules}
use mathlib.Core.Path.{◌≡◌, ap}
use mathlib.Core.Logic.{⊎_elim}
use mathlib.Core.Option.{Option, none, some, bind}
use lib.IntN.{ℤ}
use mir.Syntax.{w32}
use mir.Val.{SFits, to_z, of_z}
use mir.Facts.{to_z-of_z}
use Rattle.operations.specs.declared.values.Value.{Value}
use Rattle.operations.specs.Values.{integer_of, of_integer}
use Rattle.operations.proofs.Walks.{integer_of-of_integer}
use Rattle.evaluator.proofs.places.Walk.element_of.Goals as goal

module _ (element : ℤ → Option ℤ) (index : Value) where
  found : {z : ℤ} {v : Value} → SFits w32 z → integer_of index ≡ some z → v ≡ of_integer (element (to_z w32 (of_z w32 z))) → integer_of v ≡ bind (integer_of index) element
  unfolding bind
  found {z} f e h = rw (e, h, to_z-of_z f) (integer_of-of_integer (element z))

  no_index : integer_of index ≡ none → none ≡ bind (integer_of index) element
  unfolding bind
  no_index e = rw e

pub returns-in-Integer : goal.returns-in-Integer
returns-in-Integer c = let f : SFits w32 c.in-Integer.i = search rules in found _ _ f (ap integer_of c.in-Integer.is) c.element.ensures

pub returns-in-Truth : goal.returns-in-Truth
returns-in-Truth c = no_index _ _ (⊎_elim (λ p. ap integer_of p.1) (ap integer_of) c.in-Truth.is)
