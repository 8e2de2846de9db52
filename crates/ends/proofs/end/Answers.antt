-- The place, and its judgement. Assumes nothing.
use mir.Syntax.{w64}
use mir.Facts.{to_z-of_z}
use Rattle.text.specs.Pieces.{then}
use Rattle.brackets.specs.Brackets.{bracket_end_pieces}
use Rattle.ends.proofs.end.Goals as goal

pub returns : goal.returns
unfolding bracket_end_pieces
returns c =
    let z = to_z-of_z {w = w64} {z = c.args.n} c.ranges.n in
    then c.bytes-a.ensures (then c.byte-b.ensures (then (rw z at c.signed-c.ensures) (then c.byte-d.ensures c.judgement.ensures)))
