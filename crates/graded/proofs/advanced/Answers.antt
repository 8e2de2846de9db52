-- `graded::advanced` meets its contract: case by case. Assumes nothing.
use Rattle.graded.specs.Graded.{graded_advanced}
use Rattle.graded.proofs.advanced.Goals as goal

pub returns-in-Found : goal.returns-in-Found
unfolding graded_advanced
returns-in-Found c = simp (c.in-Found.is, c.solution.ensures)

pub returns-in-TooLong : goal.returns-in-TooLong
unfolding graded_advanced
returns-in-TooLong c = simp c.in-TooLong.is

pub returns-in-NotFinished : goal.returns-in-NotFinished
unfolding graded_advanced
returns-in-NotFinished c = simp c.in-NotFinished.is

pub returns-in-Refused : goal.returns-in-Refused
unfolding graded_advanced
returns-in-Refused c = simp c.in-Refused.is
