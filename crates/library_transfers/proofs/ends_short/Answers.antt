-- By the tests. Assumes nothing.
use borrow.Author.Tests.{lt-ltb, le-ltb}
use Rattle.library_transfers.specs.Transfers.{ends_short}
use Rattle.library_transfers.proofs.ends_short.Goals as goal

pub returns-then-first-lt3 : goal.returns-then-first-lt3
unfolding ends_short
returns-then-first-lt3 c = rw (lt-ltb _ _ c.if-first-lt3.true)

pub returns-then-second-lt3 : goal.returns-then-second-lt3
unfolding ends_short
returns-then-second-lt3 c = rw (le-ltb _ _ c.if-first-lt3.false, lt-ltb _ _ c.if-second-lt3.true)

pub returns : goal.returns
unfolding ends_short
returns c = rw (le-ltb _ _ c.if-first-lt3.false, le-ltb _ _ c.if-second-lt3.false, c.normal_size.ensures)
