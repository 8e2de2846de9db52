-- `theta::transfer_time_by` meets its contract. Assumes nothing.
use Rattle.theta.specs.Theta.{transfer_time_by}
use Rattle.theta.proofs.transfer_time_by.Goals as goal

pub returns-in-Time : goal.returns-in-Time
unfolding transfer_time_by
returns-in-Time c = rw c.in-Time.is

pub returns-in-Under : goal.returns-in-Under
unfolding transfer_time_by
returns-in-Under c = rw c.in-Under.is

pub returns-in-Over : goal.returns-in-Over
unfolding transfer_time_by
returns-in-Over c = rw c.in-Over.is
