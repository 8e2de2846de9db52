-- The two ends, the count and the bits. Assumes nothing.
use mir.Syntax.{w64}
use mir.Facts.{to_z-of_z}
use Rattle.text.specs.Pieces.{then}
use Rattle.text.proofs.Lays.{and_then}
use Rattle.reasons.specs.Lines.{between_pieces}
use Rattle.reasons.proofs.between.Goals as goal

pub returns : goal.returns
unfolding between_pieces
returns c =
    let a = c.args in
    let l = to_z-of_z {w = w64} {z = a.n.lo} (record { sfits = c.struct_told-1.given.0.1 }) in
    let h = to_z-of_z {w = w64} {z = a.n.hi} (record { sfits = c.struct_told-2-1.given.1.1.0.1 }) in
    and_then (rw l at c.timed-a.ensures) (and_then (rw h at c.timed-b.ensures) (then c.bytes-c.ensures (then c.number-d.ensures c.end.ensures)))
