-- By the case of the answer. Assumes nothing.
use Rattle.std.proofs.Common.{refl}
use native.Mathlib.Omega.{arith}
use Rattle.library_advances.specs.Advances.{advanced_within_told}
use Rattle.lent.proofs.Gives.{put, left}
use Rattle.library_advances.proofs.give_advance.Goals as goal

pub returns-in-Found : goal.returns-in-Found
unfolding advanced_within_told
returns-in-Found c = rw c.in-Found.is (put c.put_numbers.ensures (rw (c.n_of-n.ensures, c.grade_number-g.ensures) at c.put_wholes.ensures) (omega arith, omega arith) (omega arith, omega arith))

pub returns-in-TooLong : goal.returns-in-TooLong
unfolding advanced_within_told
returns-in-TooLong c = rw c.in-TooLong.is (left refl)

pub returns-in-NotFinished : goal.returns-in-NotFinished
unfolding advanced_within_told
returns-in-NotFinished c = rw c.in-NotFinished.is (put c.put_times.ensures c.put_words.ensures (omega arith, omega arith) (omega arith, omega arith))

pub returns-in-Refused : goal.returns-in-Refused
unfolding advanced_within_told
returns-in-Refused c = rw c.in-Refused.is (left c.number.ensures.value)
