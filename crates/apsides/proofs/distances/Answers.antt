-- `apsides::distances` meets its contract. Assumes nothing.
use Rattle.apsides.specs.Apsides.{distances_of}
use Rattle.apsides.proofs.distances.Goals as goal

pub returns-then-d-far : goal.returns-then-d-far
unfolding distances_of
returns-then-d-far c = rw c.if-d-far.true

pub returns : goal.returns
unfolding distances_of
returns c = rw c.if-d-far.false
