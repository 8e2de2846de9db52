-- The stamp, and the answer. Assumes nothing.
use mir.Syntax.{w16, w64}
use mir.Facts.{to_z-of_z}
use Rattle.text.proofs.Lays.{and_then}
use Rattle.tracks.specs.Tracks.{event_pieces_by}
use Rattle.tracks.proofs.event.Goals as goal

pub returns : goal.returns
unfolding event_pieces_by
returns g c =
    let s = to_z-of_z {w = w64} {z = c.args.time} c.ranges.time in
    let o = to_z-of_z {w = w16} {z = c.args.offset} c.ranges.offset in
    and_then (rw (s, o) at c.stamp-a.ensures) c.answer.ensures
