-- The stamp, and the end of the line. Assumes nothing.
use mir.Syntax.{w16, w64}
use mir.Facts.{to_z-of_z}
use Rattle.text.proofs.Lays.{one, and_then}
use Rattle.lines.proofs.line.event.Goals as goal

pub returns : goal.returns
returns c =
    let s = to_z-of_z {w = w64} {z = c.args.time} c.ranges.time in
    let o = to_z-of_z {w = w16} {z = c.args.offset} c.ranges.offset in
    and_then (rw (s, o) at c.stamp-a.ensures) (one c.byte.ensures)
