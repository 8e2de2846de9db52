-- By the case of the answer. Assumes nothing.
use native.Mathlib.Omega.{arith}
use Rattle.library_settings.specs.Versions.{stored_told}
use Rattle.lent.proofs.Gives.{put-wholes, left-wholes}
use Rattle.library_settings.proofs.give_stored.Goals as goal

pub returns-in-Ok : goal.returns-in-Ok
unfolding stored_told
returns-in-Ok c = rw c.in-Ok.is (put-wholes c.put_wholes.ensures (omega arith, omega arith))

pub returns-in-Err : goal.returns-in-Err
unfolding stored_told
returns-in-Err c = rw c.in-Err.is (left-wholes c.number.ensures.value)
