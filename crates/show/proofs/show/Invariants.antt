-- Each record is further on than the one before it.
use Rattle.show.proofs.Left.{left}
use Rattle.show.proofs.show.Given as goal

abbrev pub decreases-loop-next : goal.decreases-loop-next
decreases-loop-next g l = left l.s l.next
