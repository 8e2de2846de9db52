-- By the case. Assumes nothing.
use native.Mathlib.Omega.{arith}
use mathlib.Core.Path.{refl}
use mathlib.Core.List.{[]}
use Rattle.lent.specs.Given.{wholes_after}
use Rattle.library_stream.specs.Parts.{standing_told}
use Rattle.lent.proofs.Gives.{put-wholes}
use Rattle.library_stream.proofs.give_standing.Goals as goal

pub returns-in-Open-clause-wholes : goal.returns-in-Open-clause-wholes
unfolding standing_told
returns-in-Open-clause-wholes c =
    rw c.in-Open.is (put-wholes {xs = []} (rw c.offset_of-offset.ensures at c.put_wholes.ensures) (omega arith, omega arith)).wholes

pub returns-in-Refused-clause-wholes : goal.returns-in-Refused-clause-wholes
unfolding standing_told wholes_after
returns-in-Refused-clause-wholes c = rw c.in-Refused.is refl

pub returns-in-Ended-clause-wholes : goal.returns-in-Ended-clause-wholes
unfolding standing_told
returns-in-Ended-clause-wholes c = rw c.in-Ended.is (put-wholes {xs = []} c.put_wholes-in-Ended.ensures (omega arith, omega arith)).wholes
