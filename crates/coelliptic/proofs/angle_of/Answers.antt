-- `coelliptic::angle_of` meets its contract. Assumes nothing.
use Rattle.coelliptic.specs.Coelliptic.{angle_of}
use Rattle.coelliptic.proofs.angle_of.Goals as goal

pub returns : goal.returns
unfolding angle_of
returns c = cc
