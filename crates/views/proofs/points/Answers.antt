-- Both k, both points, and their bits. Assumes nothing.
use Rattle.text.proofs.Lays.{and_then}
use Rattle.views.specs.Views.{points_pieces}
use Rattle.views.proofs.points.Goals as goal

pub returns : goal.returns
unfolding points_pieces
returns c = and_then c.labelled-a.ensures (and_then c.labelled-b.ensures (and_then c.labelled-c.ensures c.end.ensures))
