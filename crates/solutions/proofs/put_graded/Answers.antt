-- The grade and the times. Assumes nothing.
use Rattle.text.specs.Pieces.{then}
use Rattle.solutions.specs.Solutions.{graded_pieces}
use Rattle.solutions.proofs.put_graded.Goals as goal

pub returns : goal.returns
unfolding graded_pieces
returns c =
    then c.bytes-a.ensures (then c.put_grade-b.ensures c.put_times.ensures)
