-- `lambert::judge` meets its contract. Assumes nothing.
use mir.ValLaws.{to_z-of_z}
use mir.Syntax.{w64}
use Rattle.lambert.specs.Lambert.{judged_reach}
use Rattle.lambert.proofs.judge.Goals as goal

pub returns-in-Time : goal.returns-in-Time
unfolding judged_reach
returns-in-Time c =
    let e = rw (c.grid.ensures, to_z-of_z w64 c.args.n c.ranges.n) at c.reach_at.ensures in
    rw (← e, c.in-Time.is, c.judged.ensures)

pub returns-in-Under : goal.returns-in-Under
unfolding judged_reach
returns-in-Under c =
    let e = rw (c.grid.ensures, to_z-of_z w64 c.args.n c.ranges.n) at c.reach_at.ensures in
    rw (← e, c.in-Under.is)

pub returns-in-Over : goal.returns-in-Over
unfolding judged_reach
returns-in-Over c =
    let e = rw (c.grid.ensures, to_z-of_z w64 c.args.n c.ranges.n) at c.reach_at.ensures in
    rw (← e, c.in-Over.is)
