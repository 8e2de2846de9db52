-- By the answer's case. Assumes nothing.
use Rattle.theta.specs.Theta.{transfer_time_number}
use Rattle.answers.proofs.tell_time.Goals as goal

pub returns-in-TooLong : goal.returns-in-TooLong
unfolding transfer_time_number
returns-in-TooLong g c = rw c.in-TooLong.is c.refused.ensures

pub returns-in-TooShort : goal.returns-in-TooShort
unfolding transfer_time_number
returns-in-TooShort g c = rw c.in-TooShort.is c.refused-in-TooShort.ensures
