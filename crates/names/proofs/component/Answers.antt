-- Two pieces. Assumes nothing.
use Rattle.text.specs.Pieces.{then}
use Rattle.text.proofs.Lays.{one}
use Rattle.names.proofs.component.Goals as goal

pub returns : goal.returns
returns c = then c.word-a.ensures (one c.byte.ensures)
