-- `lambert::side` meets its contract. Assumes nothing.
use Rattle.lambert.specs.Lambert.{side_of}
use Rattle.lambert.proofs.side.Goals as goal

pub returns-then-sin : goal.returns-then-sin
unfolding side_of
returns-then-sin c = rw (c.if-sin.true, c.range_test.ensures)

pub returns : goal.returns
unfolding side_of
returns c = rw (c.if-sin.false, c.range_test-2.ensures)
