-- The parts of a record as the code reads them.
-- Internal: a contract behind the public ones; no public promise cites it.
use Rattle.std.specs.Prelude.{ℕ, List}
use Rattle.table.specs.Records.{kind_at, aux_at, x_at, y_at}
use Rattle.table.specs.declared.Record.{Record}

abbrev pub parts_of : List ℕ → ℕ → Record
parts_of bs k = record { kind = kind_at bs k; aux = aux_at bs k; x = x_at bs k; y = y_at bs k }
