-- The faults of a table's records, section by section: the check without its test of the length.
-- Internal: a contract behind the public ones; no public promise cites it.
use Rattle.std.specs.Prelude.{ℕ, ◌+◌, List}
use Rattle.std.proofs.Math.Option.{Option, or_else}
use Rattle.table.specs.Records.{record_count}
use Rattle.answers.specs.Sections.{variables_at, slots_at, arrays_at, variable_count, slot_count}
use Rattle.answers.specs.Check.{Refusal, first_fault, header_fault, variable_fault, slot_fault, arrays_fault, rest_fault}
use Rattle.nodes.specs.Known.{body_fault}

unfoldable pub records_fault : List ℕ → Option Refusal
records_fault bs =
    or_else (first_fault (λ i. header_fault bs 0) 0 1)
    (or_else (first_fault (λ i. variable_fault bs i (variables_at bs + i)) (variables_at bs) (variable_count bs))
    (or_else (first_fault (λ i. slot_fault bs i (slots_at bs + i)) (slots_at bs) (slot_count bs))
    (or_else (arrays_fault bs (record_count bs) 0 (arrays_at bs)) (or_else (body_fault bs) (rest_fault bs)))))
