-- The two ends, the count, and what stopped one. Assumes nothing.
use mir.Syntax.{w64}
use mir.Facts.{to_z-of_z}
use Rattle.text.specs.Pieces.{then}
use Rattle.text.proofs.Lays.{and_then}
use Rattle.reasons.specs.Lines.{neighbour_pieces}
use Rattle.reasons.proofs.neighbours.Goals as goal

pub returns : goal.returns
unfolding neighbour_pieces
returns g c =
    let a = c.args in
    let l = to_z-of_z {w = w64} {z = a.b.lo} (record { sfits = c.struct_told-1.given.0.1 }) in
    let h = to_z-of_z {w = w64} {z = a.b.hi} (record { sfits = c.struct_told-2-1.given.1.0.1 }) in
    and_then (rw l at c.end-x.ensures) (and_then (rw h at c.end-y.ensures) (then c.bytes-z.ensures (then c.number-k.ensures c.because.ensures)))
