-- Short or not, a way or none, and then the velocity. Assumes nothing.
use Rattle.std.proofs.Common.{refl}
use borrow.Author.Tests.{lt-leb, le-leb}
use Rattle.library_solves.specs.Solves.{transfer_told}
use Rattle.lent.proofs.Gives.{left, short, enough}
use Rattle.library_solves.proofs.cabin_transfer_velocity.Goals as goal

pub returns-then-first-lt3 : goal.returns-then-first-lt3
returns-then-first-lt3 c = rw (lt-leb _ _ c.if-first-lt3.true) (short _)

pub returns-then-second-lt3 : goal.returns-then-second-lt3
returns-then-second-lt3 c = rw (le-leb _ _ c.if-first-lt3.false, lt-leb _ _ c.if-second-lt3.true) (short _)

pub returns-then-normal-normal_size : goal.returns-then-normal-normal_size
returns-then-normal-normal_size c = rw (← c.normal_size.ensures, le-leb _ _ c.if-first-lt3.false, le-leb _ _ c.if-second-lt3.false, lt-leb _ _ c.if-normal-normal_size.true) (short _)

pub returns-then-out-lt5 : goal.returns-then-out-lt5
returns-then-out-lt5 c = rw (← c.normal_size.ensures, le-leb _ _ c.if-first-lt3.false, le-leb _ _ c.if-second-lt3.false, le-leb _ _ c.if-normal-normal_size.false, lt-leb _ _ c.if-out-lt5.true) (short _)

pub returns-then-whole-lt3 : goal.returns-then-whole-lt3
returns-then-whole-lt3 c = rw (← c.normal_size.ensures, le-leb _ _ c.if-first-lt3.false, le-leb _ _ c.if-second-lt3.false, le-leb _ _ c.if-normal-normal_size.false, le-leb _ _ c.if-out-lt5.false, lt-leb _ _ c.if-whole-lt3.true) (short _)

pub returns-then-way-gt2 : goal.returns-then-way-gt2
unfolding transfer_told
returns-then-way-gt2 c = rw (← c.normal_size.ensures, le-leb _ _ c.if-first-lt3.false, le-leb _ _ c.if-second-lt3.false, le-leb _ _ c.if-normal-normal_size.false, le-leb _ _ c.if-out-lt5.false, le-leb _ _ c.if-whole-lt3.false, lt-leb _ _ c.if-way-gt2.true) (enough (left refl))

pub returns : goal.returns
unfolding transfer_told
returns c =
    rw (← c.normal_size.ensures, le-leb _ _ c.if-first-lt3.false, le-leb _ _ c.if-second-lt3.false, le-leb _ _ c.if-normal-normal_size.false, le-leb _ _ c.if-out-lt5.false, le-leb _ _ c.if-whole-lt3.false, le-leb _ _ c.if-way-gt2.false)
    (enough (rw (c.transfer_velocity.ensures, c.way_from-w.ensures, c.vector_in-b.ensures, c.vector_in-a.ensures) at c.give_transfer.ensures))
