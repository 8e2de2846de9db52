-- Short or not, and then the version. Assumes nothing.
use borrow.Author.Tests.{lt-leb, le-leb}
use Rattle.lent.proofs.Gives.{short, enough}
use Rattle.library_settings.proofs.cabin_look_up.Goals as goal

pub returns-then-out-lt4 : goal.returns-then-out-lt4
returns-then-out-lt4 c = rw (lt-leb _ _ c.if-out-lt4.true) (short _)

pub returns-then-whole-lt1 : goal.returns-then-whole-lt1
returns-then-whole-lt1 c = rw (le-leb _ _ c.if-out-lt4.false, lt-leb _ _ c.if-whole-lt1.true) (short _)

pub returns : goal.returns
returns c =
    rw (le-leb _ _ c.if-out-lt4.false, le-leb _ _ c.if-whole-lt1.false)
    (enough (rw c.look_up.ensures at c.give_looked.ensures))
