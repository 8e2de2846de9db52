-- Three pieces. Assumes nothing.
use Rattle.text.specs.Pieces.{then}
use Rattle.text.proofs.Lays.{one}
use Rattle.columns.specs.Rows.{counted_pieces}
use Rattle.columns.proofs.counted.Goals as goal

pub returns : goal.returns
unfolding counted_pieces
returns c = then c.bytes-a.ensures (then c.number-b.ensures (one c.byte.ensures))
