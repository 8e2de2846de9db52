-- `coelliptic::new_velocity` meets its contract. Assumes nothing.
use Rattle.coelliptic.specs.Coelliptic.{new_of}
use Rattle.coelliptic.proofs.new_velocity.Goals as goal

pub returns : goal.returns
unfolding new_of
returns c = simp (c.add.ensures, c.mul-2.ensures, c.mul.ensures, c.square_root-horizontal.ensures, c.cross-across.ensures, c.normal.ensures, c.unit-w.ensures, c.position.ensures)
