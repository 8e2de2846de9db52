-- `kepler::turned` meets its contract. Assumes nothing.
use Rattle.kepler.specs.Kepler.{turned_of}
use Rattle.kepler.proofs.turned.Goals as goal

pub returns-then-t : goal.returns-then-t
unfolding turned_of
returns-then-t c = rw (c.if-t.true, c.new.ensures, c.neg.ensures, c.velocity.ensures, c.position.ensures)

pub returns : goal.returns
unfolding turned_of
returns c = rw c.if-t.false
