-- `coelliptic::passive_of` meets its contract. Assumes nothing.
use Rattle.coelliptic.specs.Coelliptic.{passive_of}
use Rattle.coelliptic.proofs.passive_of.Goals as goal

pub returns : goal.returns
unfolding passive_of
returns c = simp (c.dot.ensures, c.c2.ensures, c.length-r.ensures, c.velocity-velocity.ensures, c.position-position.ensures)
