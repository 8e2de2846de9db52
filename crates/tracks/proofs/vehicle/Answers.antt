-- Its number, and where it is. Assumes nothing.
use Rattle.text.specs.Pieces.{then}
use Rattle.text.proofs.Lays.{one}
use Rattle.tracks.specs.Tracks.{where_pieces, vehicle_pieces}
use Rattle.tracks.proofs.vehicle.Goals as goal

pub returns-in-None : goal.returns-in-None
unfolding where_pieces vehicle_pieces
returns-in-None c = rw c.in-None.is (then c.bytes-a.ensures (then c.number-b.ensures (one c.bytes.ensures)))

pub returns-in-Some : goal.returns-in-Some
unfolding where_pieces vehicle_pieces
returns-in-Some c = rw c.in-Some.is (then c.bytes-a.ensures (then c.number-b.ensures c.flight.ensures))
