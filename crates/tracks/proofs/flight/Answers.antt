-- Part by part. Assumes nothing.
use Rattle.std.proofs.Common.{rules, to_z-of_z, w64, SFits}
use Rattle.text.specs.Pieces.{then}
use Rattle.text.proofs.Lays.{and_then}
use Rattle.tracks.specs.Tracks.{flight_pieces}
use Rattle.tracks.proofs.flight.Goals as goal

pub returns : goal.returns
unfolding flight_pieces
returns c =
    let fits : SFits w64 c.args.f.time = search rules in
    let s = to_z-of_z fits in
    then c.about-a.ensures (then (rw s at c.signed-b.ensures) (and_then c.labelled-c.ensures (and_then c.labelled-d.ensures c.end.ensures)))
