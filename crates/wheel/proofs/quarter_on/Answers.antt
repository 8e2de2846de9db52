-- `wheel::quarter_on` meets its contract. Assumes nothing.
use Rattle.std.proofs.Common.{sym}
use Rattle.wheel.proofs.Quadrants.{on-short, on-round}
use Rattle.wheel.proofs.quarter_on.Goals as goal

pub returns-then-e-lt3600 : goal.returns-then-e-lt3600
returns-then-e-lt3600 c = sym (on-short 900 c.args.e c.if-e-lt3600.true)

pub returns : goal.returns
returns c = sym (on-round 900 c.args.e c.if-e-lt3600.false)
