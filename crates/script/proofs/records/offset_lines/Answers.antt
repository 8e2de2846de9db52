-- Five pieces. Assumes nothing.
use native.Mathlib.Omega.{arith}
use mir.Syntax.{w16, w64}
use mir.Facts.{to_z-of_z}
use Rattle.text.specs.Pieces.{then}
use Rattle.text.proofs.Lays.{one}
use Rattle.script.specs.Script.{offset_pieces}
use Rattle.script.proofs.records.offset_lines.Goals as goal

pub returns : goal.returns
unfolding offset_pieces
returns c =
    let z = to_z-of_z {w = w16} {z = c.args.minutes} c.ranges.minutes in
    let y = to_z-of_z {w = w64} {z = c.args.minutes} (record { sfits = omega (arith, c.ranges.minutes.sfits) }) in
    let p = rw (z, y) at c.signed-b.ensures in
    let q = rw (z, y) at c.signed-d.ensures in
    then c.bytes-a.ensures (then p (then c.bytes-c.ensures (then q (one c.byte.ensures))))
