-- Short or not, and then the apsides. Assumes nothing.
use borrow.Author.Tests.{lt-leb, le-leb}
use Rattle.lent.proofs.Gives.{short, enough}
use Rattle.library.proofs.orbits.cabin_apsides.Goals as goal

pub returns-then-state-lt6 : goal.returns-then-state-lt6
returns-then-state-lt6 c = rw (lt-leb _ _ c.if-state-lt6.true) (short _)

pub returns-then-out-lt2 : goal.returns-then-out-lt2
returns-then-out-lt2 c = rw (le-leb _ _ c.if-state-lt6.false, lt-leb _ _ c.if-out-lt2.true) (short _)

pub returns-then-whole-lt1 : goal.returns-then-whole-lt1
returns-then-whole-lt1 c = rw (le-leb _ _ c.if-state-lt6.false, le-leb _ _ c.if-out-lt2.false, lt-leb _ _ c.if-whole-lt1.true) (short _)

pub returns : goal.returns
returns c =
    rw (le-leb _ _ c.if-state-lt6.false, le-leb _ _ c.if-out-lt2.false, le-leb _ _ c.if-whole-lt1.false)
    (enough (rw (c.periapo.ensures, c.state_in.ensures) at c.give_apsides.ensures))
