-- `translation::write` meets its contract.
use mathlib.Core.Path.{ap}
use native.Mathlib.Omega.{arith}
use Prim.Native.Nat.{◌*◌}
use Rattle.table.specs.Records.{record_size}
use Rattle.reading.specs.Readings.{meant}
use Rattle.layout.proofs.Tables.{passed-in}
use Rattle.translation.proofs.Wholes.{nodes-within-new, whole-stores}
use Rattle.translation.proofs.write.Goals as goal

pub put_declarations-requires : goal.put_declarations-requires
put_declarations-requires c = omega (arith, nodes-within-new _ (meant c.args.reading) c.args.table.now.sound, ap (λ n. record_size * n) c.requires.records_value, c.requires.records_in_bounds)

pub returns : goal.returns
returns c = whole-stores _ _ c.args.table.now.sound (passed-in c.args.table.now) _ _ c.requires.records_value
    (omega (arith, ap (λ n. record_size * n) c.requires.records_value, c.requires.records_in_bounds))
    c.put_declarations.ensures c.put_nodes_and_constraints.ensures
