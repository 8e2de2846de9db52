-- The row, and the newline. Assumes nothing.
use Rattle.text.proofs.Lays.{one, and_then}
use Rattle.script.specs.Script.{back_pieces}
use Rattle.script.proofs.records.back.Goals as goal

pub returns : goal.returns
unfolding back_pieces
returns c =
    and_then c.row-a.ensures (one c.byte.ensures)
