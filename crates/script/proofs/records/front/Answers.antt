-- The comment, and what begins the line. Assumes nothing.
use mir.Syntax.{w16, w64}
use mir.Facts.{to_z-of_z}
use Rattle.text.specs.Pieces.{then}
use Rattle.text.proofs.Lays.{and_then}
use Rattle.script.specs.Script.{front_pieces}
use Rattle.script.proofs.records.front.Goals as goal

pub returns : goal.returns
unfolding front_pieces
returns c =
    let s = to_z-of_z {w = w64} {z = c.args.time} c.ranges.time in
    let o = to_z-of_z {w = w16} {z = c.args.offset} c.ranges.offset in
    let p = rw (s, o) at c.put_day-a.ensures in
    let q = rw s at c.head.ensures in
    and_then p (and_then c.who-b.ensures (and_then c.row-c.ensures (then c.byte-d.ensures q)))
