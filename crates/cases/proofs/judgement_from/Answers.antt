-- By the tests. Assumes nothing.
use borrow.Author.Tests.{eq-eqb, ne_eqb}
use Rattle.cases.specs.Cases.{judgement_from}
use Rattle.cases.proofs.judgement_from.Goals as goal

pub returns-then-k-eq0 : goal.returns-then-k-eq0
unfolding judgement_from
returns-then-k-eq0 c = rw (eq-eqb _ _ c.if-k-eq0.true)

pub returns-then-k-eq1 : goal.returns-then-k-eq1
unfolding judgement_from
returns-then-k-eq1 c = rw (ne_eqb _ _ c.if-k-eq0.false, eq-eqb _ _ c.if-k-eq1.true)

pub returns-then-k-eq2 : goal.returns-then-k-eq2
unfolding judgement_from
returns-then-k-eq2 c = rw (ne_eqb _ _ c.if-k-eq0.false, ne_eqb _ _ c.if-k-eq1.false, eq-eqb _ _ c.if-k-eq2.true)

pub returns : goal.returns
unfolding judgement_from
returns c = rw (ne_eqb _ _ c.if-k-eq0.false, ne_eqb _ _ c.if-k-eq1.false, ne_eqb _ _ c.if-k-eq2.false)
