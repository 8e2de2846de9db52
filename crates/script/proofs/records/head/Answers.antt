-- Five pieces. Assumes nothing.
use mir.Syntax.{w64}
use mir.Facts.{to_z-of_z}
use Rattle.text.specs.Pieces.{then}
use Rattle.text.proofs.Lays.{one}
use Rattle.script.specs.Script.{head_pieces}
use Rattle.script.proofs.records.head.Goals as goal

pub returns : goal.returns
unfolding head_pieces
returns c =
    let z = to_z-of_z {w = w64} {z = c.args.time} c.ranges.time in
    let p = rw z at c.signed-c.ensures in
    then c.name-a.ensures (then c.byte-b.ensures (then p (then c.byte-d.ensures (one c.number.ensures))))
