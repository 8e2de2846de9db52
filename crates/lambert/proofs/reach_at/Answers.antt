-- `lambert::reach_at` meets its contract. Assumes nothing.
use Rattle.lambert.specs.Lambert.{reach_at}
use mathlib.Core.Path.{ap}
use mathlib.Core.Bool.{not}
use Rattle.lambert.proofs.reach_at.Goals as goal

pub returns-then-not-den : goal.returns-then-not-den
unfolding reach_at
returns-then-not-den c = rw (← c.den_at-den.ensures, (ap not c.if-not-den.true), c.side.ensures)

pub returns-then-not-p : goal.returns-then-not-p
unfolding reach_at
returns-then-not-p c =
    rw (← c.p_at-p.ensures, ← c.den_at-den.ensures, (ap not c.if-not-den.false), (ap not c.if-not-p.true), c.side-then-not-p.ensures)

pub returns : goal.returns
unfolding reach_at
returns c =
    rw (
      ← c.p_at-p.ensures,
      ← c.den_at-den.ensures,
      (ap not c.if-not-den.false),
      (ap not c.if-not-p.false),
      c.reach_of.ensures,
      c.arc_at.ensures,
    )
