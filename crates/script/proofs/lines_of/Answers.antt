-- By what was read. Assumes nothing.
use Rattle.text.specs.Pieces.{end}
use Rattle.script.proofs.lines_of.Goals as goal

pub returns-in-End : goal.returns-in-End
returns-in-End c = rw c.in-End.is end
