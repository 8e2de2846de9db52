-- Short or not, and then the direction. Assumes nothing.
use borrow.Author.Tests.{lt-leb, le-leb}
use Rattle.lent.proofs.Gives.{short-numbers, enough-numbers}
use Rattle.library.proofs.looks.cabin_wheel.Goals as goal

pub returns-then-out-lt2 : goal.returns-then-out-lt2
returns-then-out-lt2 c = rw (lt-leb _ _ c.if-out-lt2.true) (short-numbers _)

pub returns : goal.returns
returns c =
    rw (le-leb _ _ c.if-out-lt2.false)
    (enough-numbers (rw c.wheel.ensures at c.give_wheel.ensures))
