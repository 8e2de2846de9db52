-- Short or not, and then the time. Assumes nothing.
use borrow.Author.Tests.{lt-leb, le-leb}
use Rattle.lent.proofs.Gives.{short-numbers, enough-numbers}
use Rattle.library.proofs.orbits.cabin_transfer_time.Goals as goal

pub returns-then-state-lt6 : goal.returns-then-state-lt6
returns-then-state-lt6 c = rw (lt-leb _ _ c.if-state-lt6.true) (short-numbers _)

pub returns-then-out-lt1 : goal.returns-then-out-lt1
returns-then-out-lt1 c = rw (le-leb _ _ c.if-state-lt6.false, lt-leb _ _ c.if-out-lt1.true) (short-numbers _)

pub returns : goal.returns
returns c =
    rw (le-leb _ _ c.if-state-lt6.false, le-leb _ _ c.if-out-lt1.false)
    (enough-numbers (rw (c.time_theta.ensures, c.state_in.ensures) at c.give_time.ensures))
