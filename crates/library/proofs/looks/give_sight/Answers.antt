-- By the case of the answer. Assumes nothing.
use native.Mathlib.Omega.{arith}
use Rattle.library.specs.Answers.{sight_told}
use Rattle.lent.proofs.Gives.{put-numbers, left-numbers}
use Rattle.library.proofs.looks.give_sight.Goals as goal

pub returns-in-Ok : goal.returns-in-Ok
unfolding sight_told
returns-in-Ok c = rw c.in-Ok.is (put-numbers c.put_numbers.ensures (omega arith, omega arith))

pub returns-in-Err : goal.returns-in-Err
unfolding sight_told
returns-in-Err c = rw c.in-Err.is (left-numbers c.number.ensures.value)
