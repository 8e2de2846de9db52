-- Part by part. Assumes nothing.
use Rattle.text.proofs.Lays.{and_then}
use Rattle.solutions.specs.Solutions.{orbit_pieces}
use Rattle.solutions.proofs.orbit.Goals as goal

pub returns : goal.returns
unfolding orbit_pieces
returns c = and_then c.put_turned-a.ensures (and_then c.labelled-b.ensures (and_then c.labelled-c.ensures c.end.ensures))
