-- `sections::find_places` meets its contract: each section begins where the one before it ends.
use mathlib.Core.Path.{ap}
use Rattle.table.specs.Marks.{mark_of}
use Rattle.answers.specs.Sections.{variables_at, slots_at, arrays_at, array_records, nodes_at, constraints_at, rest_at}
use Rattle.sections.specs.declared.ArrayRun.{ArrayRun}
use Rattle.sections.specs.Places.{array_run_of, places_of}
use Rattle.sections.proofs.find_places.Goals as goal

pub returns : goal.returns
unfolding mark_of variables_at slots_at arrays_at array_records nodes_at constraints_at rest_at array_run_of places_of
returns c =
    let slots = c.run_end-slots.ensures in
    let arrays = c.run_end-arrays.ensures in
    let run = c.array_run-nodes.ensures in
    let end = ap (λ (r : ArrayRun). r.end) run in
    let count = ap (λ (r : ArrayRun). r.count) run in
    let constraints = c.run_end-constraints.ensures in
    let rest = c.run_end-rest.ensures in
    cc
