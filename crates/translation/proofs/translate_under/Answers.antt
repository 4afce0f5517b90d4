-- `translation::translate_under` meets its contract: the check's refusals, then 8, then 9, then the new table.
use mathlib.Core.Path.{sym}
use native.Mathlib.Omega.{arith}
use lib.ListN.{length}
use Rattle.std.proofs.lemmas.Result.{err_from_is_err_and}
use Rattle.table.specs.Records.{record_size}
use Rattle.reading.specs.Readings.{meant}
use Rattle.translation.proofs.Outcomes.{room_given, size-given, refused-check, refused-bounds, refused-room, written}
use Rattle.translation.proofs.Wholes.{length-new}
use Rattle.translation.proofs.translate_under.Goals as goal

pub returns-in_err-table : goal.returns-in_err-table
returns-in_err-table c =
    let p = err_from_is_err_and c.from_residual.result c.from_residual.ensures.1 in
    rw (p.1, p.2) (refused-check _ _ _ _ c.in_err-table.ensures)

pub returns-in_err-bounded : goal.returns-in_err-bounded
returns-in_err-bounded c =
    let p = err_from_is_err_and c.from_residual-in_err-bounded.result c.from_residual-in_err-bounded.ensures.1 in
    rw (p.1, p.2, ← c.in_ok-table.ensures) (refused-bounds _ _ _ _ c.in_ok-table.table.sound c.in_err-bounded.ensures)

pub returns-then-not-room : goal.returns-then-not-room
returns-then-not-room c =
    rw (← c.in_ok-table.ensures) (refused-room _ _ _ c.in_ok-table.table.sound (sym c.in_ok-bounded.ensures) _ c.new_records-records.ensures c.has_room-room.ensures c.if-not-room.true)

pub overflow_cast-records : goal.overflow_cast-records
unfolding record_size
overflow_cast-records c = omega (arith, size-given c.new_records-records.result (length c.args.out.now) c.has_room-room.ensures c.if-not-room.false)

pub overflow_mul-result : goal.overflow_mul-result
unfolding record_size
overflow_mul-result c = omega (arith, size-given c.new_records-records.result (length c.args.out.now) c.has_room-room.ensures c.if-not-room.false)

pub overflow_cast-result : goal.overflow_cast-result
unfolding record_size
overflow_cast-result c = omega (arith, size-given c.new_records-records.result (length c.args.out.now) c.has_room-room.ensures c.if-not-room.false)

pub write-requires : goal.write-requires
write-requires c = record { records_value = c.new_records-records.ensures; records_in_bounds = room_given c.new_records-records.result (length c.args.out.now) c.has_room-room.ensures c.if-not-room.false; records_bound = size-given c.new_records-records.result (length c.args.out.now) c.has_room-room.ensures c.if-not-room.false }

pub returns : goal.returns
unfolding record_size
returns c =
    rw (← c.in_ok-table.ensures) (written _ _ _ c.in_ok-table.table.sound (sym c.in_ok-bounded.ensures) _ c.new_records-records.ensures c.has_room-room.ensures c.if-not-room.false
    (length-new _ (meant c.args.reading) c.in_ok-table.table.sound) c.write.ensures)
