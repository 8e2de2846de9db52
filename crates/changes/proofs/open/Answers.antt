-- The change, the pericentre, and their bits. Assumes nothing.
use Rattle.text.proofs.Lays.{and_then}
use Rattle.changes.specs.Changes.{open_pieces}
use Rattle.changes.proofs.open.Goals as goal

pub returns : goal.returns
unfolding open_pieces
returns c = and_then c.labelled-a.ensures (and_then c.labelled-b.ensures c.end.ensures)
