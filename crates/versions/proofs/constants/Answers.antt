-- The constants one behind the other, and their bits. Assumes nothing.
use Rattle.text.proofs.Lays.{and_then}
use Rattle.versions.specs.Versions.{constant_pieces}
use Rattle.versions.proofs.constants.Goals as goal

pub returns : goal.returns
unfolding constant_pieces
returns c =
    and_then c.labelled-a.ensures
    (and_then c.labelled-b.ensures (and_then c.labelled-c.ensures (and_then c.labelled-d.ensures c.end.ensures)))
