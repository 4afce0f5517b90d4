-- The mark that each case of the code's `Mark` stands for, and its letters.
-- Internal: a contract behind the public ones; no public promise cites it.
use Rattle.std.specs.Prelude.{ℕ, List, [], ◌∷◌}
use Rattle.table.specs.Records as Records
use Rattle.table.specs.declared.Mark.{Mark}
use Rattle.table.specs.declared.Mark.TheVariants.{Head, Variable, Slot, Array, Element, Node, Constraint}

unfoldable pub mark_of : Mark → Records.Mark
mark_of Head = Records.HD
mark_of Variable = Records.VR
mark_of Slot = Records.SL
mark_of Array = Records.AR
mark_of Element = Records.EL
mark_of Node = Records.ND
mark_of Constraint = Records.CN

unfoldable pub letters_of : Mark → List ℕ
letters_of m = Records.first_letter (mark_of m) ∷ Records.second_letter (mark_of m) ∷ []
