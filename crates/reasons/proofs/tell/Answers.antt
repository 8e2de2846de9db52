-- By the reason. Assumes nothing.
use Rattle.text.proofs.Lays.{one}
use Rattle.reasons.proofs.tell.Goals as goal

pub returns-in-Solved : goal.returns-in-Solved
returns-in-Solved g c = rw c.in-Solved.is (one c.bytes.ensures)
