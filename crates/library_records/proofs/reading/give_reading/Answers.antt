-- By the case of the answer. Assumes nothing.
use native.Mathlib.Omega.{arith}
use Rattle.library_records.specs.Records.{read_told}
use Rattle.lent.proofs.Gives.{left}
use Rattle.library_records.proofs.Laws.{put-none}
use Rattle.library_records.proofs.reading.give_reading.Goals as goal

pub returns-in-Offset : goal.returns-in-Offset
unfolding read_told
returns-in-Offset c = rw c.in-Offset.is (put-none (rw c.offset_of-offset.ensures at c.put_wholes.ensures) (omega arith, omega arith))

pub returns-in-End : goal.returns-in-End
unfolding read_told
returns-in-End c = rw c.in-End.is (put-none c.put_wholes-in-End.ensures (omega arith, omega arith))

pub returns-in-Refused : goal.returns-in-Refused
unfolding read_told
returns-in-Refused c = rw c.in-Refused.is (left c.number.ensures.value)
