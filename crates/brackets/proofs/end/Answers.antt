-- The place, and its judgement. Assumes nothing.
use mir.Syntax.{w64}
use mir.Facts.{to_z-of_z}
use Rattle.text.specs.Pieces.{then}
use Rattle.brackets.specs.Brackets.{bracket_end_pieces}
use Rattle.brackets.proofs.end.Goals as goal

pub returns : goal.returns
unfolding bracket_end_pieces
returns c =
    let z = to_z-of_z {w = w64} {z = c.args.n} c.ranges.n in
    then c.byte-a.ensures (then (rw z at c.signed-b.ensures) (then c.byte-c.ensures c.judgement.ensures))
