-- The name, the amount, the limit and the bits. Assumes nothing.
use Rattle.text.specs.Pieces.{then}
use Rattle.text.proofs.Lays.{one, and_then}
use Rattle.limits.specs.Limits.{failed_pieces}
use Rattle.limits.proofs.failed.Goals as goal

pub returns : goal.returns
unfolding failed_pieces
returns g c = and_then c.name-a.ensures (and_then c.amount-b.ensures (and_then c.limit-c.ensures (then c.bytes-d.ensures (one c.exact.ensures))))
