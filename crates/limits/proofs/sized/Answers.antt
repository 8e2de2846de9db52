-- The same, and two words more. Assumes nothing.
use Rattle.text.proofs.Lays.{one, and_then}
use Rattle.limits.proofs.sized.Goals as goal

pub returns : goal.returns
returns c = and_then c.bounded-a.ensures (one c.bytes.ensures)
