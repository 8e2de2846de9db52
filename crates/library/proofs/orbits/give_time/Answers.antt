-- By the case of the answer. Assumes nothing.
use Rattle.std.proofs.Common.{refl}
use native.Mathlib.Omega.{arith}
use Rattle.library.specs.Answers.{transfer_time_told}
use Rattle.lent.proofs.Gives.{put-numbers, left-numbers}
use Rattle.library.proofs.orbits.give_time.Goals as goal

pub returns-in-Time : goal.returns-in-Time
unfolding transfer_time_told
returns-in-Time c = rw c.in-Time.is (put-numbers c.put_numbers.ensures (omega arith, omega arith))

pub returns-in-TooLong : goal.returns-in-TooLong
unfolding transfer_time_told
returns-in-TooLong c = rw c.in-TooLong.is (left-numbers refl)

pub returns-in-TooShort : goal.returns-in-TooShort
unfolding transfer_time_told
returns-in-TooShort c = rw c.in-TooShort.is (left-numbers refl)

pub returns-in-Refused : goal.returns-in-Refused
unfolding transfer_time_told
returns-in-Refused c = rw c.in-Refused.is (left-numbers c.number.ensures.value)
