-- By the case. Assumes nothing.
use native.Mathlib.Omega.{arith}
use mathlib.Core.Path.{refl}
use Rattle.lent.specs.Given.{told_number}
use Rattle.library_stream.specs.Parts.{step_told}
use Rattle.library_stream.proofs.Laws.{stands}
use Rattle.library_records.proofs.Laws.{put-none}
use Rattle.library_stream.proofs.give_step.Goals as goal

pub returns-in-Record-clause-number : goal.returns-in-Record-clause-number
unfolding step_told told_number
returns-in-Record-clause-number c = rw c.in-Record.is c.give_next.ensures.number

pub returns-in-Offset-clause-numbers : goal.returns-in-Offset-clause-numbers
unfolding step_told
returns-in-Offset-clause-numbers c =
    rw c.in-Offset.is (put-none (rw c.offset_of-offset.ensures at c.put_wholes.ensures) (omega arith, omega arith)).numbers

pub returns-in-Offset-clause-wholes : goal.returns-in-Offset-clause-wholes
unfolding step_told
returns-in-Offset-clause-wholes c =
    rw c.in-Offset.is (put-none {d = c.args.out.now} (rw c.offset_of-offset.ensures at c.put_wholes.ensures) (omega arith, omega arith)).wholes

pub returns-in-Stopped-clause-numbers : goal.returns-in-Stopped-clause-numbers
unfolding step_told
returns-in-Stopped-clause-numbers c =
    rw c.in-Stopped.is (stands _ (record { number = refl; wholes = c.give_standing.ensures.wholes })).numbers

pub returns-in-Stopped-clause-wholes : goal.returns-in-Stopped-clause-wholes
unfolding step_told
returns-in-Stopped-clause-wholes c = rw c.in-Stopped.is c.give_standing.ensures.wholes
