-- `Line::of_record`: the record's line stands at the start of the buffer.
use Rattle.std.proofs.Common.{◌≤◌, length, arith, rules}
use Rattle.answers.specs.Listing.{line_of}
use Rattle.lines.proofs.Placed.{put, taken}
use Rattle.lines.proofs.Line.of_record.Goals as goal

pub returns : goal.returns
returns c =
    let e = c.put_line.ensures in
    let whole : 35 ≤ length c.line.inside.bytes = search rules in
    taken (put (line_of c.args.table.now c.args.k) e.value e.text_after) (omega arith)
