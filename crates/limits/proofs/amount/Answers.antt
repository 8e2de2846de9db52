-- Three pieces. Assumes nothing.
use Rattle.text.specs.Pieces.{then}
use Rattle.text.proofs.Lays.{one}
use Rattle.limits.specs.Limits.{amount_pieces}
use Rattle.limits.proofs.amount.Goals as goal

pub returns : goal.returns
unfolding amount_pieces
returns c = then c.byte-a.ensures (then c.fixed-b.ensures (one c.bytes.ensures))
