-- The two ends, and the count. Assumes nothing.
use mir.Syntax.{w64}
use mir.Facts.{to_z-of_z}
use Rattle.text.specs.Pieces.{then}
use Rattle.text.proofs.Lays.{one, and_then}
use Rattle.brackets.specs.Brackets.{from_pieces}
use Rattle.brackets.proofs.from.Goals as goal

pub returns : goal.returns
unfolding from_pieces
returns c =
    let a = c.args in
    let l = to_z-of_z {w = w64} {z = a.s.lo} (record { sfits = c.struct_told-1.given.0.1 }) in
    let h = to_z-of_z {w = w64} {z = a.s.hi} (record { sfits = c.struct_told-2-1.given.1.0.1 }) in
    then c.bytes-a.ensures
    (and_then (rw l at c.end-b.ensures) (and_then (rw h at c.end-c.ensures) (then c.byte-d.ensures (one c.number.ensures))))
