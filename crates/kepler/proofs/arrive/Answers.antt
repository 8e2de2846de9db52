-- `kepler::arrive` meets its contract. Assumes nothing.
use mir.ValLaws.{to_z-of_z}
use mir.Syntax.{w64}
use Rattle.kepler.specs.Kepler.{arrival_at}
use Rattle.kepler.proofs.arrive.Goals as goal

pub returns-in-Ok : goal.returns-in-Ok
unfolding arrival_at
returns-in-Ok c = rw (← rw (to_z-of_z w64 c.args.n c.ranges.n) at c.trial_at.ensures, c.in-Ok.is, c.arrived.ensures)

pub returns-in-Err : goal.returns-in-Err
unfolding arrival_at
returns-in-Err c = rw (← rw (to_z-of_z w64 c.args.n c.ranges.n) at c.trial_at.ensures, c.in-Err.is, c.grid.ensures, to_z-of_z w64 c.args.n c.ranges.n)
