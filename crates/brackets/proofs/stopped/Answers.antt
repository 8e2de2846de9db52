-- The number, and the bracket. Assumes nothing.
use Rattle.text.specs.Pieces.{then}
use Rattle.text.proofs.Lays.{one, and_then}
use Rattle.brackets.specs.Brackets.{stopped_pieces}
use Rattle.brackets.proofs.stopped.Goals as goal

pub returns : goal.returns
unfolding stopped_pieces
returns c = then c.bytes-a.ensures (and_then c.from-b.ensures (one c.byte.ensures))
