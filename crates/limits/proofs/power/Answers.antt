-- The sign of the exponent, and its size. Assumes nothing.
use Rattle.text.specs.Pieces.{then}
use Rattle.text.proofs.Lays.{one}
use borrow.Author.Tests.{le-leb, lt-leb}
use Rattle.limits.specs.Limits.{power_pieces}
use Rattle.limits.proofs.power.Goals as goal

pub returns-then-e-ge1023 : goal.returns-then-e-ge1023
unfolding power_pieces
returns-then-e-ge1023 c = rw (le-leb _ _ c.if-e-ge1023.true) (then c.bytes-a.ensures (one c.number.ensures))

pub returns : goal.returns
unfolding power_pieces
returns c = rw (lt-leb _ _ c.if-e-ge1023.false) (then c.bytes-a-2.ensures (one c.number-2.ensures))
