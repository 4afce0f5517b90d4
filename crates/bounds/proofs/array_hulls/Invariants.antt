-- `bounds::array_hulls` meets its contract.
use Rattle.language.specs.Meaning.{array_at}
use Rattle.numbers.proofs.Lists.{Filled}
use Rattle.answers.specs.Sections.{declarations}
use Rattle.rules.specs.Bounds.{elements_interval}
use Rattle.bounds.proofs.Declared.{held, nothing}
use Rattle.bounds.proofs.array_hulls.Given as goal

abbrev pub invariant-loop-a : goal.invariant-loop-a
invariant-loop-a l = Filled nothing 64 (λ k. held (elements_interval (declarations l.table.bytes.now) (array_at (declarations l.table.bytes.now) k).elements)) l.hulls l.a
