-- Short or not, and then the points. Assumes nothing.
use borrow.Author.Tests.{lt-leb, le-leb}
use Rattle.lent.proofs.Gives.{short-numbers, enough-numbers}
use Rattle.library.proofs.looks.cabin_sight.Goals as goal

pub returns-then-active-lt3 : goal.returns-then-active-lt3
returns-then-active-lt3 c = rw (lt-leb _ _ c.if-active-lt3.true) (short-numbers _)

pub returns-then-passive-lt3 : goal.returns-then-passive-lt3
returns-then-passive-lt3 c = rw (le-leb _ _ c.if-active-lt3.false, lt-leb _ _ c.if-passive-lt3.true) (short-numbers _)

pub returns-then-horizontal-lt3 : goal.returns-then-horizontal-lt3
returns-then-horizontal-lt3 c = rw (le-leb _ _ c.if-active-lt3.false, le-leb _ _ c.if-passive-lt3.false, lt-leb _ _ c.if-horizontal-lt3.true) (short-numbers _)

pub returns-then-vertical-lt3 : goal.returns-then-vertical-lt3
returns-then-vertical-lt3 c = rw (le-leb _ _ c.if-active-lt3.false, le-leb _ _ c.if-passive-lt3.false, le-leb _ _ c.if-horizontal-lt3.false, lt-leb _ _ c.if-vertical-lt3.true) (short-numbers _)

pub returns-then-out-lt8 : goal.returns-then-out-lt8
returns-then-out-lt8 c = rw (le-leb _ _ c.if-active-lt3.false, le-leb _ _ c.if-passive-lt3.false, le-leb _ _ c.if-horizontal-lt3.false, le-leb _ _ c.if-vertical-lt3.false, lt-leb _ _ c.if-out-lt8.true) (short-numbers _)

pub returns : goal.returns
returns c =
    rw (le-leb _ _ c.if-active-lt3.false, le-leb _ _ c.if-passive-lt3.false, le-leb _ _ c.if-horizontal-lt3.false, le-leb _ _ c.if-vertical-lt3.false, le-leb _ _ c.if-out-lt8.false)
    (enough-numbers (rw (c.crossings.ensures, c.vector_in-v.ensures, c.vector_in-h.ensures, c.vector_in-p.ensures, c.vector_in-a.ensures) at c.give_sight.ensures))
