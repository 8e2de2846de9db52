-- `reach::ended` meets its contract: each test before the one that answers was passed. Assumes nothing.
use Rattle.reach.specs.Reach.{judged_x}
use mathlib.Core.Path.{ap}
use mathlib.Core.Bool.{not}
use Rattle.reach.proofs.ended.Goals as goal

pub returns-then-not-x : goal.returns-then-not-x
unfolding judged_x
returns-then-not-x c = rw (← c.g.ensures, (ap not c.if-not-x.true), c.over.ensures)

pub returns-then-xi : goal.returns-then-xi
unfolding judged_x
returns-then-xi c =
    rw (← c.g.ensures, (ap not c.if-not-x.false), c.if-xi.true, c.range_test.ensures)

pub returns-then-not-xi : goal.returns-then-not-xi
unfolding judged_x
returns-then-not-xi c =
    rw (
      ← c.g.ensures,
      (ap not c.if-not-x.false),
      c.if-xi.false,
      (ap not c.if-not-xi.true),
      c.over-then-not-xi.ensures,
    )

pub returns : goal.returns
unfolding judged_x
returns c =
    rw (
      ← c.g.ensures,
      (ap not c.if-not-x.false),
      c.if-xi.false,
      (ap not c.if-not-xi.false),
      c.time_at.ensures,
    )
