-- The place, and the judgement. Assumes nothing.
use mir.Syntax.{w64}
use mir.Facts.{to_z-of_z}
use Rattle.text.specs.Pieces.{then}
use Rattle.text.proofs.Lays.{one, and_then}
use Rattle.ends.specs.Ends.{misjudged_pieces}
use Rattle.ends.proofs.misjudged.Goals as goal

pub returns : goal.returns
unfolding misjudged_pieces
returns c =
    let z = to_z-of_z {w = w64} {z = c.args.n} c.ranges.n in
    then c.bytes-a.ensures (then (rw z at c.signed-b.ensures) (then c.bytes-c.ensures (and_then c.judgement-d.ensures (one c.byte.ensures))))
