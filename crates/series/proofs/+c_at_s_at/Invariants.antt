-- The measure of each of the two is the number of quarterings left.
use Rattle.series.proofs.+c_at_s_at.Given as goal

abbrev pub decreases-c_at : goal.decreases-c_at
decreases-c_at l = l.left

abbrev pub decreases-s_at : goal.decreases-s_at
decreases-s_at l = l.left
