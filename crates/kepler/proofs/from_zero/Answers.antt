-- `kepler::from_zero` meets its contract. Assumes nothing.
use Rattle.kepler.specs.Kepler.{from_zero}
use Rattle.kepler.proofs.from_zero.Goals as goal

pub returns-then-x : goal.returns-then-x
unfolding from_zero
returns-then-x c = rw c.if-x.true

pub returns : goal.returns
unfolding from_zero
returns c = rw c.if-x.false
