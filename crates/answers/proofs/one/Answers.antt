-- The number, and its bits. Assumes nothing.
use Rattle.text.proofs.Lays.{and_then}
use Rattle.answers.specs.Answers.{one_pieces}
use Rattle.answers.proofs.one.Goals as goal

pub returns : goal.returns
unfolding one_pieces
returns c = and_then c.labelled-a.ensures c.end.ensures
