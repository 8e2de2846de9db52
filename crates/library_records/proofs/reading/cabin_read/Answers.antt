-- Short or not, and then the record. Assumes nothing.
use mir.Syntax.{w16}
use mir.Facts.{to_z-of_z}
use borrow.Author.Tests.{lt-leb, le-leb}
use Rattle.lent.proofs.Gives.{short, enough}
use Rattle.library_records.proofs.reading.cabin_read.Goals as goal

pub returns-then-out-lt6 : goal.returns-then-out-lt6
returns-then-out-lt6 c = rw (lt-leb _ _ c.if-out-lt6.true) (short _)

pub returns-then-whole-lt6 : goal.returns-then-whole-lt6
returns-then-whole-lt6 c = rw (le-leb _ _ c.if-out-lt6.false, lt-leb _ _ c.if-whole-lt6.true) (short _)

pub returns : goal.returns
returns c =
    rw (le-leb _ _ c.if-out-lt6.false, le-leb _ _ c.if-whole-lt6.false)
    (enough (rw (c.read.ensures, to_z-of_z {w = w16} {z = c.args.offset} c.ranges.offset) at c.give_reading.ensures))
