-- A blank, and the body. Assumes nothing.
use Rattle.text.specs.Pieces.{then}
use Rattle.text.proofs.Lays.{one}
use Rattle.script.specs.Script.{body_pieces}
use Rattle.script.proofs.records.body.Goals as goal

pub returns : goal.returns
unfolding body_pieces
returns c =
    then c.byte-a.ensures (one c.number.ensures)
