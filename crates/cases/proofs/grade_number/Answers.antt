-- By the case. Assumes nothing.
use Rattle.cases.specs.Cases.{grade_number}
use Rattle.cases.proofs.grade_number.Goals as goal

pub returns-in-Closed : goal.returns-in-Closed
unfolding grade_number
returns-in-Closed c = rw c.in-Closed.is

pub returns-in-Fair : goal.returns-in-Fair
unfolding grade_number
returns-in-Fair c = rw c.in-Fair.is

pub returns-in-Rough : goal.returns-in-Rough
unfolding grade_number
returns-in-Rough c = rw c.in-Rough.is
