-- `translator::rows::Node::number` meets its contract.
use mathlib.Core.Path.{◌≡◌, refl, sym, ap, ◌∙◌}
use Prim.Native.Nat.{◌+◌}
use native.Mathlib.Omega.{arith}
use lib.ListN.{get_or}
use denote.Enum.Declared.{tag_of}
use Rattle.translator.specs.contracts.tables.Word.{the_type}
use Rattle.translator.specs.declared.tables.Word.{Word}
use Rattle.translator.specs.declared.tables.Word.TheVariants.{Zero, One, FirstOfX, SecondOfX, FirstOfY, SecondOfY, Named, FirstIndex, LastIndex}
use Rattle.translator.specs.Cells.{words, place_of, number_of}
use Rattle.translator.proofs.Cells.{place-of_word, place-row}
use Rattle.translator.proofs.rows.Node.number.Goals as goal

tag-is : (word : Word) → tag_of the_type word ≡ place_of word
unfolding place_of
tag-is Zero = refl
tag-is One = refl
tag-is FirstOfX = refl
tag-is SecondOfX = refl
tag-is FirstOfY = refl
tag-is SecondOfY = refl
tag-is Named = refl
tag-is FirstIndex = refl
tag-is LastIndex = refl

pub returns-in-Handed : goal.returns-in-Handed
unfolding number_of
returns-in-Handed c = let n = c.args.self.now in rw c.in-Handed.is (ap (λ i. get_or n.words i 0) (tag-is c.in-Handed.word) ∙ sym (place-of_word n.words n.base c.in-Handed.word))

pub returns-in-Written : goal.returns-in-Written
unfolding number_of
returns-in-Written c = let n = c.args.self.now in rw c.in-Written.is (omega (arith, place-row n.words n.base (words + c.in-Written.row) (omega arith), c.from.ensures))
