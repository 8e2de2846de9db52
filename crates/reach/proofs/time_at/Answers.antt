-- `reach::time_at` meets its contract. Assumes nothing.
use mathlib.Core.Path.{sym, ◌∙◌}
use Rattle.reach.specs.Reach.{timed}
use Rattle.reach.proofs.time_at.Goals as goal

pub returns-then-in_time : goal.returns-then-in_time
unfolding timed
returns-then-in_time c =
    rw (← c.point_at.ensures, c.in-Ok.is, sym c.in_time.ensures ∙ c.if-in_time.true)

pub returns-else-in_time : goal.returns-else-in_time
unfolding timed
returns-else-in_time c =
    rw (← c.point_at.ensures, c.in-Ok.is, sym c.in_time.ensures ∙ c.if-in_time.false, c.over.ensures)

pub returns-in-Err : goal.returns-in-Err
unfolding timed
returns-in-Err c = rw (← c.point_at.ensures, c.in-Err.is)
