-- The day and the cs by the local clock. Assumes nothing.
use mathlib.Core.Path.{◌≡◌}
use mir.Syntax.{w16, w64}
use mir.Facts.{to_z-of_z}
use Rattle.text.specs.Pieces.{then}
use Rattle.text.proofs.Lays.{one}
use Rattle.lines.specs.Days.{local_of, day_of, cs_of}
use Rattle.script.specs.Script.{day_pieces}
use Rattle.script.proofs.records.put_day.Goals as goal

pub returns : goal.returns
unfolding day_pieces
returns c =
    let s = to_z-of_z {w = w64} {z = c.args.time} c.ranges.time in
    let o = to_z-of_z {w = w16} {z = c.args.offset} c.ranges.offset in
    let t = local_of c.args.time c.args.offset in
    let g : c.day_of-d.result.day ≡ day_of t = rw (s, o) at c.day_of-d.ensures.0 in
    let y : c.day_of-d.result.cs ≡ cs_of t = rw (s, o) at c.day_of-d.ensures.1 in
    let e = to_z-of_z {w = w64} {z = c.day_of-d.result.day} (record { sfits = c.struct_told-1.given.0.1 }) in
    let p = rw (e, g) at c.signed-b.ensures in
    let q = rw y at c.number-e.ensures in
    then c.bytes-a.ensures (then p (then c.bytes-c.ensures (then q (one c.bytes.ensures))))
