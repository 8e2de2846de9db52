-- One piece. Assumes nothing.
use Rattle.text.proofs.Lays.{one}
use Rattle.tracks.specs.Tracks.{heading_pieces}
use Rattle.tracks.proofs.heading.Goals as goal

pub returns : goal.returns
unfolding heading_pieces
returns c = one c.bytes.ensures
