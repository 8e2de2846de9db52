-- Three pieces. Assumes nothing.
use Rattle.text.specs.Pieces.{then}
use Rattle.text.proofs.Lays.{one}
use Rattle.script.specs.Script.{who_pieces}
use Rattle.script.proofs.records.who.Goals as goal

pub returns : goal.returns
unfolding who_pieces
returns c =
    then c.name-a.ensures (then c.bytes-b.ensures (one c.number.ensures))
