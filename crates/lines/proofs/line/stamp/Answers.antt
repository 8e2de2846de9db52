-- The clock, the vehicle and the kind. Assumes nothing.
use mir.Syntax.{w16, w64}
use mir.Facts.{to_z-of_z}
use Rattle.text.specs.Pieces.{then}
use Rattle.text.proofs.Lays.{one, and_then}
use Rattle.lines.specs.Lines.{stamp_pieces}
use Rattle.lines.proofs.line.stamp.Goals as goal

pub returns : goal.returns
unfolding stamp_pieces
returns c =
    let s = to_z-of_z {w = w64} {z = c.args.time} c.ranges.time in
    let o = to_z-of_z {w = w16} {z = c.args.offset} c.ranges.offset in
    and_then (rw (s, o) at c.clock-a.ensures) (then c.number-b.ensures (then c.byte-c.ensures (one c.name.ensures)))
