-- `solve::grade_of` meets its contract: the two tests pick the grade. Assumes nothing.
use Rattle.solve.specs.Answers.{grade_of}
use Rattle.solve.proofs.grade_of.Goals as goal

pub returns-then-err-size : goal.returns-then-err-size
unfolding grade_of
returns-then-err-size c = simp c.if-err-size.true

pub returns-then-err-size-2 : goal.returns-then-err-size-2
unfolding grade_of
returns-then-err-size-2 c = simp (c.if-err-size.false, c.if-err-size-2.true)

pub returns : goal.returns
unfolding grade_of
returns c = simp (c.if-err-size.false, c.if-err-size-2.false)
