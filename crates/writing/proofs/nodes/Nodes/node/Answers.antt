-- `writing::nodes::Nodes::node` meets its contract.
use mathlib.Core.Path.{◌≡◌, sym, ap, ◌∙◌}
use Prim.Native.Nat.{◌+◌}
use native.Mathlib.Omega.{arith}
use lib.IntN.{nat_abs}
use mir.Syntax.{w32}
use mir.Val.{of_z, to_z}
use Rattle.table.proofs.Parts.{x-read}
use Rattle.table.specs.declared.Record.{Record}
use Rattle.table.specs.Records.{kind_at, x_at, y_at}
use Rattle.answers.specs.Sections.{nodes_at, node_count, declarations}
use Rattle.layout.proofs.Tables.{laid-in}
use Rattle.translator.specs.Words.{node_words}
use Rattle.writing.proofs.Known.{KnownNode, known-node}
use Rattle.writing.proofs.NodeWords.{operand_is, own_is, array-is, words_are}
use Rattle.writing.proofs.nodes.Nodes.node.Goals.{Start}
use Rattle.writing.proofs.nodes.Nodes.node.Goals as goal

-- the node's record
at-node : (c : Start) → c.args.self.now.table.now.at.nodes + c.args.n ≡ nodes_at c.args.self.now.table.now.bytes.now + c.args.n
at-node c = ap (λ p. p + c.args.n) (laid-in c.args.self.now.table.now).nodes

known : (c : Start) → KnownNode c.args.self.now.table.now.bytes.now (c.args.self.now.table.now.at.nodes + c.args.n)
known c = known-node c.args.self.now.table.now.bytes.now c.args.self.now.table.now.sound c.args.n (at-node c) c.requires.is_node

pub overflow_add-self : goal.overflow_add-self
unfolding node_count
overflow_add-self c = let l = laid-in c.args.self.now.table.now in omega (arith, l, l.order, c.requires.is_node)

pub record_at-record-requires : goal.record_at-record-requires
record_at-record-requires c = (known (goal.at.record_at-record-requires c).Start).inside

pub bounds-self-from : goal.bounds-self-from
bounds-self-from c = omega (arith, c.from.ensures, ap (λ (r : Record). r.kind) c.record_at-record.ensures, (known (goal.at.bounds-self-from c).Start).known_kind)

pub indexes-indexes-requires : goal.indexes-indexes-requires
indexes-indexes-requires c = let k = known (goal.at.indexes-indexes-requires c).Start in
    let operand = operand_is _ c.args.self.now.kinds_are (c.from.ensures ∙ ap (λ (r : Record). r.kind) c.record_at-record.ensures) k.known_kind in
    λ t. rw (c.named-x.ensures.x ∙ ap (λ (r : Record). nat_abs r.x) c.record_at-record.ensures) (k.known_array (sym (array-is k.known_kind operand) ∙ t))

pub returns-clause-kind : goal.returns-clause-kind
returns-clause-kind c = let s = (goal.at.returns-clause-kind c).Start in ap (λ (r : Record). r.kind) c.record_at-record.ensures ∙ ap (λ p. kind_at c.args.self.now.table.now.bytes.now p) (at-node s)

pub returns-clause-words : goal.returns-clause-words
returns-clause-words c = let bs = c.args.self.now.table.now.bytes.now in
    let firsts = c.args.positions.now.firsts in
    let seconds = c.args.positions.now.seconds in
    let s = (goal.at.returns-clause-words c).Start in
    let k = known s in
    let operand = operand_is _ c.args.self.now.kinds_are (c.from.ensures ∙ ap (λ (r : Record). r.kind) c.record_at-record.ensures) k.known_kind in
    words_are bs firsts seconds _
    (c.named-x.ensures.x ∙ ap (λ (r : Record). nat_abs r.x) c.record_at-record.ensures) (c.named-x.ensures.y ∙ ap (λ (r : Record). nat_abs r.y) c.record_at-record.ensures)
    c.kept.ensures c.kept-2.ensures c.kept-3.ensures c.kept-4.ensures
    (own_is k.known_kind operand (ap (λ (r : Record). to_z w32 (of_z w32 r.x)) c.record_at-record.ensures ∙ x-read bs _) c.own_word.ensures) (array-is k.known_kind operand) c.indexes-indexes.ensures
    ∙ ap (λ p. node_words (declarations bs) firsts seconds (kind_at bs p) (x_at bs p) (y_at bs p)) (at-node s)
