-- The day and the cs. Assumes nothing.
use mathlib.Core.Path.{◌≡◌, ap, ◌∙◌}
use lib.IntN.{ℤ}
use mir.Syntax.{w16, w64}
use mir.Val.{to_z, of_z}
use mir.Facts.{to_z-of_z}
use Rattle.text.specs.Pieces.{then}
use Rattle.text.proofs.Lays.{one}
use Rattle.lines.specs.Days.{local_of, day_of, cs_of}
use Rattle.lines.proofs.Locals.{day-fits, local-small}
use Rattle.lines.specs.Lines.{clock_pieces}
use Rattle.lines.proofs.line.clock.Goals as goal

pub returns : goal.returns
unfolding clock_pieces
returns c =
    let a = c.args in
    let f = c.ranges in
    let s = to_z-of_z {w = w64} {z = a.time} f.time in
    let o = to_z-of_z {w = w16} {z = a.offset} f.offset in
    let t = local_of a.time a.offset in
    let g : c.day_of-d.result.day ≡ day_of t = rw (s, o) at c.day_of-d.ensures.0 in
    let y : c.day_of-d.result.cs ≡ cs_of t = rw (s, o) at c.day_of-d.ensures.1 in
    let e : to_z w64 (of_z w64 c.day_of-d.result.day) ≡ day_of t =
    ap (λ (x : ℤ). to_z w64 (of_z w64 x)) g ∙ to_z-of_z {w = w64} {z = day_of t} (day-fits t (local-small a.time a.offset f.time f.offset)) in
    then (rw e at c.signed-a.ensures) (then c.byte-b.ensures (then (rw y at c.number-c.ensures) (one c.byte.ensures)))
