-- `writing::nodes::Nodes::array_indexes` meets its contract.
use mathlib.Core.Path.{ap, ◌∙◌}
use lib.IntN.{nat_abs}
use mir.Syntax.{w32}
use mir.Val.{of_z, to_z}
use Rattle.table.proofs.Parts.{x-read}
use Rattle.table.specs.declared.Record.{Record}
use Rattle.writing.proofs.NodeWords.{indexes_are}
use Rattle.writing.proofs.nodes.Nodes.array_indexes.Goals as goal

pub returns : goal.returns
returns c = indexes_are c.args.self.now.table.now.bytes.now c.args.p (c.cast_unsigned-first.ensures ∙ ap (λ (r : Record). of_z w32 (to_z w32 (of_z w32 r.x))) c.record_at-array.ensures ∙ ap (of_z w32) (x-read c.args.self.now.table.now.bytes.now c.args.p)) (c.named-count.ensures.y ∙ ap (λ (r : Record). nat_abs r.y) c.record_at-array.ensures) c.last_word.ensures
