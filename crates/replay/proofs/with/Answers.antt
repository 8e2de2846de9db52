-- By the vehicle's number. Assumes nothing.
use borrow.Author.Tests.{ne_eqb}
use Rattle.replay.specs.Replay.{with_of}
use Rattle.replay.proofs.with.Goals as goal

pub returns-then-vehicle-eq0 : goal.returns-then-vehicle-eq0
unfolding with_of
returns-then-vehicle-eq0 c = simp c.if-vehicle-eq0.true

pub returns-else-vehicle-eq0 : goal.returns-else-vehicle-eq0
unfolding with_of
returns-else-vehicle-eq0 c = simp (ne_eqb c.args.vehicle 0 c.if-vehicle-eq0.false)
