-- `translator::writer::put_word` meets its contract.
use mathlib.Core.Path.{ap, ◌∙◌}
use native.Mathlib.Omega.{arith}
use lib.ListN.{length-take, length-drop}
use lib.Seq.{sets}
use Rattle.table.specs.Records.{word_bytes}
use Rattle.translator.proofs.Stores.{part-stored}
use Rattle.translator.proofs.writer.put_word.Goals as goal

pub returns : goal.returns
unfolding word_bytes
returns c = part-stored _ _ _ _ (c.copy_from_slice.ensures.len ∙ simp (length-take, length-drop) (omega arith)) (omega arith) ∙ ap (sets c.args.out.now c.args.at) (c.copy_from_slice.ensures.after ∙ c.to_le_bytes.ensures)
