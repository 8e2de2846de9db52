-- By the limit. Assumes nothing.
use Rattle.text.proofs.Lays.{one}
use Rattle.limits.proofs.limit.Goals as goal

pub returns-in-Finite : goal.returns-in-Finite
returns-in-Finite c = rw c.in-Finite.is (one c.bytes.ensures)
