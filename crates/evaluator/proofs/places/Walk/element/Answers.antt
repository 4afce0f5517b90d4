-- `evaluator::places::Walk::element` meets its contract.
use mathlib.Core.Path.{◌≡◌, ◌∙◌}
use Prim.Native.Nat.{ℕ, ◌≤◌, ◌<◌}
use native.Mathlib.Omega.{arith}
use mathlib.Core.List.{List}
use lib.IntN.{ℤ}
use lib.ListN.{length, get_or}
use mir.Syntax.{w32}
use mir.Val.{SFits, to_z, of_z}
use mir.Facts.{to_z-of_z}
use Rattle.language.specs.Meaning.{Assignment, array_at, element_at}
use Rattle.answers.specs.Sections.{array_of}
use Rattle.operations.specs.declared.values.Value.{Value}
use Rattle.operations.specs.declared.values.Value.TheVariants.{Undefined}
use Rattle.operations.specs.Values.{of_integer}
use Rattle.evaluator.specs.declared.places.TablePlaces.{TablePlaces}
use Rattle.evaluator.specs.Walks.{Laid, declared}
use Rattle.evaluator.proofs.Declared.{array-declared, array-missing, element_missing}
use Rattle.evaluator.proofs.places.Walk.element.Goals as goal

module _ (α : Assignment) (bs : List ℕ) (places : TablePlaces) (A : ℕ) (i : ℤ) (l : Laid bs places) where
  enough : places.array_count ≤ length places.arrays
  enough = omega (arith, l.wide, l.few_arrays)

  found : {r : Value} → A < places.array_count → SFits w32 i → r ≡ of_integer (element_at α (array_of bs (get_or places.arrays A 0)) (to_z w32 (of_z w32 i))) →
      r ≡ of_integer (element_at α (array_at (declared bs places) A) i)
  found h f e = e ∙ rw (to_z-of_z f, array-declared bs places A h enough)

  missing : places.array_count ≤ A → Undefined ≡ of_integer (element_at α (array_at (declared bs places) A) i)
  missing h = rw (array-missing bs places A h enough, element_missing α bs A i)

pub returns-then-a-self : goal.returns-then-a-self
returns-then-a-self c = let w = c.args.self.now in found w.assignment.now w.table.now w.places.now c.args.array.0 c.args.index w.laid c.if-a-self.true c.ranges.index c.element_in.ensures

pub returns-else-a-self : goal.returns-else-a-self
returns-else-a-self c = let w = c.args.self.now in missing w.assignment.now w.table.now w.places.now c.args.array.0 c.args.index w.laid c.if-a-self.false
