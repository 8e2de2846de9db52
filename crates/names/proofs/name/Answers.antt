-- By the part. Assumes nothing.
use Rattle.text.proofs.Lays.{one}
use Rattle.names.proofs.name.Goals as goal

pub returns-in-Whole : goal.returns-in-Whole
returns-in-Whole c = rw c.in-Whole.is (one c.word.ensures)
