-- By the answer's case. Assumes nothing.
use Rattle.solve.specs.Answers.{advanced_number}
use Rattle.solutions.proofs.tell_advance.Goals as goal

pub returns-in-TooLong : goal.returns-in-TooLong
unfolding advanced_number
returns-in-TooLong g c = rw c.in-TooLong.is c.refused.ensures
