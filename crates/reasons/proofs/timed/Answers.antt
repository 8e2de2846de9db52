-- The place, and its time. Assumes nothing.
use mir.Syntax.{w64}
use mir.Facts.{to_z-of_z}
use Rattle.text.specs.Pieces.{then}
use Rattle.reasons.specs.Lines.{timed_pieces}
use Rattle.reasons.proofs.timed.Goals as goal

pub returns : goal.returns
unfolding timed_pieces
returns c =
    let z = to_z-of_z {w = w64} {z = c.args.n} c.ranges.n in
    then c.bytes-a.ensures (then (rw z at c.signed-b.ensures) c.labelled.ensures)
