-- By the case of the answer. Assumes nothing.
use native.Mathlib.Omega.{arith}
use Rattle.library_replay.specs.Steps.{answered_told}
use Rattle.lent.proofs.Gives.{put, left}
use Rattle.library_replay.proofs.give_answer.Goals as goal

pub returns-in-Set : goal.returns-in-Set
unfolding answered_told
returns-in-Set c = rw c.in-Set.is (put c.put_states.ensures c.put_held.ensures (omega arith, omega arith) (omega arith, omega arith))

pub returns-in-Done : goal.returns-in-Done
unfolding answered_told
returns-in-Done c = rw c.in-Done.is (put c.put_states-in-Done.ensures c.put_held-in-Done.ensures (omega arith, omega arith) (omega arith, omega arith))

pub returns-in-Off : goal.returns-in-Off
unfolding answered_told
returns-in-Off c = rw c.in-Off.is (put c.put_marked.ensures c.put_held-in-Off.ensures (omega arith, omega arith) (omega arith, omega arith))

pub returns-in-Refused : goal.returns-in-Refused
unfolding answered_told
returns-in-Refused c = rw c.in-Refused.is (left c.number.ensures.value)
