-- The word, and the number behind it. Assumes nothing.
use Rattle.text.specs.Pieces.{then}
use Rattle.limits.proofs.bounded.Goals as goal

pub returns : goal.returns
returns c = then c.bytes-a.ensures c.bound.ensures
