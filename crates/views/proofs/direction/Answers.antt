-- Sine and cosine, and their bits. Assumes nothing.
use Rattle.text.proofs.Lays.{and_then}
use Rattle.views.specs.Views.{direction_pieces}
use Rattle.views.proofs.direction.Goals as goal

pub returns : goal.returns
unfolding direction_pieces
returns c = and_then c.labelled-a.ensures (and_then c.labelled-b.ensures c.end.ensures)
