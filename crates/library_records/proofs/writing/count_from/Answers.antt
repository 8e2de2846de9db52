-- By the tests. Assumes nothing.
use borrow.Author.Tests.{eq-eqb, ne_eqb}
use Rattle.library_records.specs.Records.{count_from}
use Rattle.library_records.proofs.writing.count_from.Goals as goal

pub returns-then-k-eq1 : goal.returns-then-k-eq1
unfolding count_from
returns-then-k-eq1 c = rw (eq-eqb _ _ c.if-k-eq1.true)

pub returns-then-k-eq2 : goal.returns-then-k-eq2
unfolding count_from
returns-then-k-eq2 c = rw (ne_eqb _ _ c.if-k-eq1.false, eq-eqb _ _ c.if-k-eq2.true)

pub returns : goal.returns
unfolding count_from
returns c = rw (ne_eqb _ _ c.if-k-eq1.false, ne_eqb _ _ c.if-k-eq2.false)
