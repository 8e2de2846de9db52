-- Part by part. Assumes nothing.
use Rattle.text.proofs.Lays.{and_then}
use Rattle.solutions.specs.Solutions.{transfer_pieces}
use Rattle.solutions.proofs.velocity.Goals as goal

pub returns : goal.returns
unfolding transfer_pieces
returns c = and_then c.put_done-a.ensures (and_then c.labelled-b.ensures c.end.ensures)
