-- `Line::push_field`: the field stands behind what the line has.
use Rattle.std.proofs.Common.{◌++◌, length, ap, ◌∙◌, arith, length-take-le}
use mir.Facts.{to_z-of_z}
use Rattle.answers.specs.Listing.{signed_decimal, space}
use Rattle.lines.proofs.Placed.{put, taken}
use Rattle.lines.proofs.Line.push_field.Goals as goal

pub returns : goal.returns
returns c =
    let line = c.self.inside in
    let read = to_z-of_z c.ranges.x in
    let value = rw read at c.put_field-self-inside.ensures.value in
    let text_after = rw read at c.put_field-self-inside.ensures.text_after in
    let front = length-take-le line.len line.bytes (omega arith) in
    taken (put (space ++ signed_decimal c.args.x) value text_after) (omega (arith, ap length c.self.view_is))
    ∙ rw c.self.view_is
