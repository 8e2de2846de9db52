-- By the answer's case. Assumes nothing.
use Rattle.text.proofs.Lays.{one as piece}
use Rattle.answers.proofs.tell_trial.Goals as goal

pub returns-in-NoneLeft : goal.returns-in-NoneLeft
returns-in-NoneLeft g c = rw c.in-NoneLeft.is (piece c.bytes.ensures)
