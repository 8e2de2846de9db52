-- By the tests. Assumes nothing.
use borrow.Author.Tests.{lt-ltb, le-ltb, eq-eqb, ne_eqb}
use Rattle.library_replay.specs.Steps.{record_wrong}
use Rattle.library_replay.proofs.record_wrong.Goals as goal

pub returns-then-vehicle-gt1 : goal.returns-then-vehicle-gt1
unfolding record_wrong
returns-then-vehicle-gt1 c = rw (lt-ltb _ _ c.if-vehicle-gt1.true)

pub returns-then-kind-eq1 : goal.returns-then-kind-eq1
unfolding record_wrong
returns-then-kind-eq1 c = rw (le-ltb _ _ c.if-vehicle-gt1.false, eq-eqb _ _ c.if-kind-eq1.true)

pub returns : goal.returns
unfolding record_wrong
returns c = rw (le-ltb _ _ c.if-vehicle-gt1.false, ne_eqb _ _ c.if-kind-eq1.false)
