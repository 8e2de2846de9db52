-- Two labelled numbers. Assumes nothing.
use Rattle.text.proofs.Lays.{and_then}
use Rattle.solutions.specs.Solutions.{times_pieces}
use Rattle.solutions.proofs.put_times.Goals as goal

pub returns : goal.returns
unfolding times_pieces
returns c = and_then c.labelled-a.ensures c.labelled.ensures
