-- By the case of the answer. Assumes nothing.
use Rattle.library_burn.specs.Burns.{burn_told}
use Rattle.lent.proofs.Gives.{left}
use Rattle.library_burn.proofs.give_burn.Goals as goal

pub returns-in-Ok : goal.returns-in-Ok
unfolding burn_told
returns-in-Ok c = rw c.in-Ok.is c.give_change.ensures

pub returns-in-Err : goal.returns-in-Err
unfolding burn_told
returns-in-Err c = rw c.in-Err.is (left c.number.ensures.value)
