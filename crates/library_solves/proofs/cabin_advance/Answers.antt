-- Short or not, and then the advance. Assumes nothing.
use borrow.Author.Tests.{lt-leb, le-leb}
use Rattle.lent.proofs.Gives.{short, enough}
use Rattle.library_solves.proofs.cabin_advance.Goals as goal

pub returns-then-state-lt6 : goal.returns-then-state-lt6
returns-then-state-lt6 c = rw (lt-leb _ _ c.if-state-lt6.true) (short _)

pub returns-then-out-lt8 : goal.returns-then-out-lt8
returns-then-out-lt8 c = rw (le-leb _ _ c.if-state-lt6.false, lt-leb _ _ c.if-out-lt8.true) (short _)

pub returns-then-whole-lt4 : goal.returns-then-whole-lt4
returns-then-whole-lt4 c = rw (le-leb _ _ c.if-state-lt6.false, le-leb _ _ c.if-out-lt8.false, lt-leb _ _ c.if-whole-lt4.true) (short _)

pub returns : goal.returns
returns c =
    rw (le-leb _ _ c.if-state-lt6.false, le-leb _ _ c.if-out-lt8.false, le-leb _ _ c.if-whole-lt4.false)
    (enough (rw (c.advance.ensures, c.state_in.ensures) at c.give_advance.ensures))
