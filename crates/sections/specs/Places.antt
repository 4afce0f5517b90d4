-- Where each section begins, as the code has it.
-- Internal: a contract behind the public ones; no public promise cites it.
use Rattle.std.specs.Prelude.{ℕ, List, length}
use Rattle.table.specs.Records.{record_count}
use Rattle.answers.specs.Sections.{arrays_from, arrays_end, slots_at, arrays_at, array_records, nodes_at, constraints_at, rest_at}
use Rattle.sections.specs.declared.Places.{Places}
use Rattle.sections.specs.declared.ArrayRun.{ArrayRun}

-- the arrays from a record on
unfoldable pub array_run_of : List ℕ → ℕ → ArrayRun
array_run_of bs p = record { end = arrays_end bs (record_count bs) p; count = length (arrays_from bs (record_count bs) p) }

unfoldable pub places_of : List ℕ → Places
places_of bs =
    record {
      slots = slots_at bs;
      arrays = arrays_at bs;
      array_count = length (array_records bs);
      nodes = nodes_at bs;
      constraints = constraints_at bs;
      rest = rest_at bs;
    }
