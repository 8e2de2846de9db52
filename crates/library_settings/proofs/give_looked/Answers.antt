-- By the case of the answer. Assumes nothing.
use native.Mathlib.Omega.{arith}
use Rattle.library_settings.specs.Versions.{looked_told}
use Rattle.lent.proofs.Gives.{put, left}
use Rattle.library_settings.proofs.give_looked.Goals as goal

pub returns-in-Ok : goal.returns-in-Ok
unfolding looked_told
returns-in-Ok c = rw c.in-Ok.is (put c.put_numbers.ensures c.put_wholes.ensures (omega arith, omega arith) (omega arith, omega arith))

pub returns-in-Err : goal.returns-in-Err
unfolding looked_told
returns-in-Err c = rw c.in-Err.is (left c.number.ensures.value)
