-- `coelliptic::normal` meets its contract. Assumes nothing.
use Rattle.coelliptic.specs.Coelliptic.{normal_of}
use Rattle.coelliptic.proofs.normal.Goals as goal

pub returns : goal.returns
unfolding normal_of
returns c = simp (c.unit.ensures, c.cross.ensures, c.velocity.ensures, c.position.ensures)
