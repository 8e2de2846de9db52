-- `wheel::wheel` meets its contract. Assumes nothing.
use Rattle.std.proofs.Common.{le-ltb, lt-ltb}
use Rattle.wheel.specs.Wheel.{wheel_of}
use Rattle.wheel.proofs.wheel.Goals as goal

pub returns-then-e-lt3600 : goal.returns-then-e-lt3600
unfolding wheel_of
returns-then-e-lt3600 c = rw (lt-ltb c.args.e 3600 c.if-e-lt3600.true, c.direction_at.ensures)

pub returns : goal.returns
unfolding wheel_of
returns c = rw (le-ltb c.args.e 3600 c.if-e-lt3600.false)
