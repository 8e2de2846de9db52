-- The change, the apsides, and their bits. Assumes nothing.
use Rattle.text.proofs.Lays.{and_then}
use Rattle.changes.specs.Changes.{closed_pieces}
use Rattle.changes.proofs.closed.Goals as goal

pub returns : goal.returns
unfolding closed_pieces
returns c = and_then c.labelled-a.ensures (and_then c.labelled-b.ensures (and_then c.labelled-c.ensures c.end.ensures))
