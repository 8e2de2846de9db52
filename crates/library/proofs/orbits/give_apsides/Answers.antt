-- By the case of the answer. Assumes nothing.
use native.Mathlib.Omega.{arith}
use Rattle.library.specs.Answers.{apsides_told}
use Rattle.lent.proofs.Gives.{put, left}
use Rattle.library.proofs.orbits.give_apsides.Goals as goal

pub returns-in-Closed : goal.returns-in-Closed
unfolding apsides_told
returns-in-Closed c = rw c.in-Closed.is (put c.put_numbers.ensures c.put_wholes.ensures (omega arith, omega arith) (omega arith, omega arith))

pub returns-in-Open : goal.returns-in-Open
unfolding apsides_told
returns-in-Open c = rw c.in-Open.is (put c.put_numbers-in-Open.ensures c.put_wholes-in-Open.ensures (omega arith, omega arith) (omega arith, omega arith))

pub returns-in-Refused : goal.returns-in-Refused
unfolding apsides_told
returns-in-Refused c = rw c.in-Refused.is (left c.number.ensures.value)
