-- By the test. Assumes nothing.
use borrow.Author.Tests.{eq-eqb, ne_eqb}
use Rattle.cases.specs.Cases.{normal_size}
use Rattle.cases.proofs.normal_size.Goals as goal

pub returns-then-k-eq2 : goal.returns-then-k-eq2
unfolding normal_size
returns-then-k-eq2 c = rw (eq-eqb _ _ c.if-k-eq2.true)

pub returns : goal.returns
unfolding normal_size
returns c = rw (ne_eqb _ _ c.if-k-eq2.false)
