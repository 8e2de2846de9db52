-- Body 0 is the earth. Assumes nothing.
use borrow.Author.Tests.{ne_eqb}
use Rattle.flight.specs.Flight.{mu_of}
use Rattle.flight.proofs.mu_of.Goals as goal

pub returns-then-body-eq0 : goal.returns-then-body-eq0
unfolding mu_of
returns-then-body-eq0 c = simp c.if-body-eq0.true

pub returns-else-body-eq0 : goal.returns-else-body-eq0
unfolding mu_of
returns-else-body-eq0 c = simp (ne_eqb c.args.body 0 c.if-body-eq0.false)
