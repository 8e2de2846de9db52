-- `conic::point_at` meets its contract. Assumes nothing.
use Rattle.conic.specs.Conic.{point_at, trial_of}
use Rattle.conic.proofs.point_at.Goals as goal

pub returns-in_default : goal.returns-in_default
unfolding point_at trial_of
returns-in_default c = rw (← c.c_and_s.ensures, c.in_default.is, c.outside.ensures)

pub returns : goal.returns
unfolding point_at trial_of
returns c = rw (← c.c_and_s.ensures, c.in-Ok.is, c.time-t.ensures)
