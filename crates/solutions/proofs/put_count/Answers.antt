-- Four pieces. Assumes nothing.
use mir.Syntax.{w64}
use mir.Facts.{to_z-of_z}
use Rattle.text.specs.Pieces.{then}
use Rattle.text.proofs.Lays.{one}
use Rattle.solutions.specs.Solutions.{count_pieces}
use Rattle.solutions.proofs.put_count.Goals as goal

pub returns : goal.returns
unfolding count_pieces
returns c =
    let z = to_z-of_z {w = w64} {z = c.args.n} c.ranges.n in
    then c.bytes-a.ensures (then (rw z at c.signed-b.ensures) (then c.bytes-c.ensures (one c.number.ensures)))
