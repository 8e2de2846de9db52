-- The pieces of a line. Assumes nothing.
use Rattle.text.specs.Pieces.{then}
use Rattle.versions.specs.Versions.{version_pieces}
use Rattle.versions.proofs.version.Goals as goal

pub returns : goal.returns
unfolding version_pieces
returns c =
    then c.bytes-a.ensures
    (then c.number-b.ensures (then c.bytes-c.ensures (then c.number-d.ensures c.constants.ensures)))
