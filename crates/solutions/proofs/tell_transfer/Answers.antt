-- By the answer's case. Assumes nothing.
use Rattle.solve.specs.Answers.{transferred_number}
use Rattle.solutions.proofs.tell_transfer.Goals as goal

pub returns-in-TooLong : goal.returns-in-TooLong
unfolding transferred_number
returns-in-TooLong g c = rw c.in-TooLong.is c.refused.ensures

pub returns-in-TooShort : goal.returns-in-TooShort
unfolding transferred_number
returns-in-TooShort g c = rw c.in-TooShort.is c.refused-in-TooShort.ensures
