-- Three pieces. Assumes nothing.
use Rattle.text.specs.Pieces.{then}
use Rattle.text.proofs.Lays.{one}
use Rattle.names.proofs.barred.Goals as goal

pub returns : goal.returns
returns c = then c.byte-a.ensures (then c.word-b.ensures (one c.byte.ensures))
