-- `kepler::judge` meets its contract. Assumes nothing.
use mir.ValLaws.{to_z-of_z}
use mir.Syntax.{w64}
use Rattle.kepler.specs.Kepler.{judged_trial}
use Rattle.kepler.proofs.judge.Goals as goal

pub returns-in-Ok : goal.returns-in-Ok
unfolding judged_trial
returns-in-Ok c = rw (← rw (to_z-of_z w64 c.args.n c.ranges.n) at c.trial_at.ensures, c.in-Ok.is, c.judged.ensures)

pub returns-in-Err : goal.returns-in-Err
unfolding judged_trial
returns-in-Err c = rw (← rw (to_z-of_z w64 c.args.n c.ranges.n) at c.trial_at.ensures, c.in-Err.is)
