-- A number is put where there is a place for it. Assumes nothing.
use native.Mathlib.Omega.{arith}
use borrow.Author.Tests.{lt-leb, le-leb}
use Rattle.library.specs.Answers.{one_told}
use Rattle.lent.proofs.Gives.{put-numbers, left-numbers, short-numbers, enough-numbers}
use Rattle.library.proofs.numbers.give_one.Goals as goal

pub returns-then-out-lt1 : goal.returns-then-out-lt1
returns-then-out-lt1 c = rw (lt-leb _ _ c.if-out-lt1.true) (short-numbers _)

pub returns-in-Ok : goal.returns-in-Ok
unfolding one_told
returns-in-Ok c = rw (le-leb _ _ c.if-out-lt1.false, c.in-Ok.is) (enough-numbers (put-numbers c.put_numbers.ensures (omega arith, omega arith)))

pub returns-in-Err : goal.returns-in-Err
unfolding one_told
returns-in-Err c = rw (le-leb _ _ c.if-out-lt1.false, c.in-Err.is) (enough-numbers (left-numbers c.number.ensures.value))
