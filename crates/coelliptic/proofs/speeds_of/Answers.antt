-- `coelliptic::speeds_of` meets its contract. Assumes nothing.
use Rattle.coelliptic.specs.Coelliptic.{speeds_of}
use Rattle.coelliptic.proofs.speeds_of.Goals as goal

pub returns : goal.returns
unfolding speeds_of
returns c = cc
