-- Each turn passes a byte. Assumes nothing.
use Rattle.split.proofs.Turns.{is-line, is-kept, goes_in, goes_by}
use Rattle.split.proofs.next_line.Goals as goal
use Rattle.split.proofs.next_line.Goals.{then-k-room, else-k-room}

pub returns-then-b-eq10 : goal.returns-then-b-eq10
returns-then-b-eq10 c = is-line c.loop-i.invariant c.loop-i-test.true c.if-b-eq10.true

pub loop-i-preserved : goal.loop-i-preserved
loop-i-preserved c =
    elim c.if-k-room.branch [
      | then-k-room w ↦ rw (w.room-is, w.k-is) (goes_in c.loop-i.invariant c.loop-i-test.true c.if-b-eq10.false w.if-k-room.true)
      | else-k-room w ↦ rw (w.room-is, w.k-is) (goes_by c.loop-i.invariant c.loop-i-test.true c.if-b-eq10.false w.if-k-room.false)
    ]

pub returns : goal.returns
returns c = is-kept c.loop-i.invariant c.loop-i-test.false
