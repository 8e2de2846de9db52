-- Five pieces. Assumes nothing.
use Rattle.text.specs.Pieces.{then}
use Rattle.text.proofs.Lays.{one}
use Rattle.lines.specs.Lines.{refused_pieces}
use Rattle.lines.proofs.line.refused_at.Goals as goal

pub returns : goal.returns
unfolding refused_pieces
returns c = then c.bytes-a.ensures (then c.number-b.ensures (then c.bytes-c.ensures (then c.number-d.ensures (one c.byte.ensures))))
