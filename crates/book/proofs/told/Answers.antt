-- By the case. Assumes nothing.
use Rattle.text.specs.Pieces.{end}
use Rattle.book.proofs.told.Goals as goal

pub returns-in-Ok : goal.returns-in-Ok
returns-in-Ok g c = rw c.in-Ok.is end
