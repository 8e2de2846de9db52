-- The word, and what stopped it. Assumes nothing.
use Rattle.text.specs.Pieces.{then}
use Rattle.text.proofs.Lays.{one, and_then}
use Rattle.reasons.specs.Lines.{because_pieces}
use Rattle.reasons.proofs.because.Goals as goal

pub returns : goal.returns
unfolding because_pieces
returns g c = then c.bytes-a.ensures (and_then c.stop-b.ensures (one c.byte.ensures))
