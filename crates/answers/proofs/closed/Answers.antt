-- Two numbers, and their bits. Assumes nothing.
use Rattle.text.proofs.Lays.{and_then}
use Rattle.answers.specs.Answers.{closed_pieces}
use Rattle.answers.proofs.closed.Goals as goal

pub returns : goal.returns
unfolding closed_pieces
returns c = and_then c.labelled-a.ensures (and_then c.labelled-b.ensures c.end.ensures)
