-- The word, the row and the newline. Assumes nothing.
use Rattle.text.specs.Pieces.{then}
use Rattle.text.proofs.Lays.{one, and_then}
use Rattle.columns.proofs.end.Goals as goal

pub returns : goal.returns
returns c = then c.bytes-a.ensures (and_then c.row-b.ensures (one c.byte.ensures))
