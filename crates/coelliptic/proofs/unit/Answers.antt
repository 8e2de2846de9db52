-- `coelliptic::unit` meets its contract. Assumes nothing.
use Rattle.coelliptic.specs.Coelliptic.{unit_of}
use Rattle.coelliptic.proofs.unit.Goals as goal

pub returns : goal.returns
unfolding unit_of
returns c = cc
