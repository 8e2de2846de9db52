-- `graded::transferred` meets its contract: case by case. Assumes nothing.
use Rattle.graded.specs.Graded.{graded_transferred}
use Rattle.graded.proofs.transferred.Goals as goal

pub returns-in-Found : goal.returns-in-Found
unfolding graded_transferred
returns-in-Found c = simp (c.in-Found.is, c.solution.ensures)

pub returns-in-TooLong : goal.returns-in-TooLong
unfolding graded_transferred
returns-in-TooLong c = simp c.in-TooLong.is

pub returns-in-TooShort : goal.returns-in-TooShort
unfolding graded_transferred
returns-in-TooShort c = simp c.in-TooShort.is

pub returns-in-NotFinished : goal.returns-in-NotFinished
unfolding graded_transferred
returns-in-NotFinished c = simp c.in-NotFinished.is

pub returns-in-Refused : goal.returns-in-Refused
unfolding graded_transferred
returns-in-Refused c = simp c.in-Refused.is
