-- By the test. Assumes nothing.
use borrow.Author.Tests.{eq-eqb, ne_eqb}
use Rattle.held_replay.specs.Held.{body_from}
use Rattle.held_replay.proofs.body_from.Goals as goal

pub returns-then-n-eq0 : goal.returns-then-n-eq0
unfolding body_from
returns-then-n-eq0 c = rw (eq-eqb _ _ c.if-n-eq0.true)

pub returns-else-n-eq0 : goal.returns-else-n-eq0
unfolding body_from
returns-else-n-eq0 c = rw (ne_eqb _ _ c.if-n-eq0.false)
