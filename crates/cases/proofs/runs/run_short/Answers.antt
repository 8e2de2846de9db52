-- By the tests. Assumes nothing.
use borrow.Author.Tests.{lt-ltb, le-ltb}
use Rattle.cases.specs.Cases.{run_short}
use Rattle.cases.proofs.runs.run_short.Goals as goal

pub returns-then-from-lt1 : goal.returns-then-from-lt1
unfolding run_short
returns-then-from-lt1 c = rw (lt-ltb _ _ c.if-from-lt1.true)

pub returns-then-from-lt5 : goal.returns-then-from-lt5
unfolding run_short
returns-then-from-lt5 c = rw (le-ltb _ _ c.if-from-lt1.false, lt-ltb _ _ c.if-from-lt5.true)

pub returns : goal.returns
unfolding run_short
returns c = rw (le-ltb _ _ c.if-from-lt1.false, le-ltb _ _ c.if-from-lt5.false)
