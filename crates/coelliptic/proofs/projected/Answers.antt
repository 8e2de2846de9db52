-- `coelliptic::projected` meets its contract. Assumes nothing.
use Rattle.coelliptic.specs.Coelliptic.{projected_of}
use Rattle.coelliptic.proofs.projected.Goals as goal

pub returns : goal.returns
unfolding projected_of
returns c = cc
