-- `kepler::turns_of` meets its contract. Assumes nothing.
use Rattle.kepler.specs.Kepler.{turns_of}
use Rattle.kepler.proofs.turns_of.Goals as goal

pub returns-then-m : goal.returns-then-m
unfolding turns_of
returns-then-m c = rw (c.if-m.true, c.from_zero-rest.ensures, c.nearest_whole.ensures, c.cut-turns.ensures, c.period_of-period.ensures)

pub returns : goal.returns
unfolding turns_of
returns c = rw c.if-m.false
