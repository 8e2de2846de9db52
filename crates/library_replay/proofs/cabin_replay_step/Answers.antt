-- Short or not, a kind or none, numbers enough or not, a case or none, and then the step. Assumes nothing.
use Rattle.std.proofs.Common.{refl}
use mir.Syntax.{w64}
use mir.Facts.{to_z-of_z}
use borrow.Author.Tests.{lt-leb, le-leb}
use Rattle.library_replay.specs.Steps.{step_told}
use Rattle.lent.proofs.Gives.{left, short, enough}
use Rattle.library_replay.proofs.cabin_replay_step.Goals as goal

pub returns-then-states-lt13 : goal.returns-then-states-lt13
returns-then-states-lt13 c = rw (lt-leb _ _ c.if-states-lt13.true) (short _)

pub returns-then-held-lt7 : goal.returns-then-held-lt7
returns-then-held-lt7 c = rw (le-leb _ _ c.if-states-lt13.false, lt-leb _ _ c.if-held-lt7.true) (short _)

pub returns-then-kind-lt1 : goal.returns-then-kind-lt1
unfolding step_told
returns-then-kind-lt1 c = rw (le-leb _ _ c.if-states-lt13.false, le-leb _ _ c.if-held-lt7.false, lt-leb _ _ c.if-kind-lt1.true) (enough (left refl))

pub returns-then-kind-gt3 : goal.returns-then-kind-gt3
unfolding step_told
returns-then-kind-gt3 c = rw (le-leb _ _ c.if-states-lt13.false, le-leb _ _ c.if-held-lt7.false, le-leb _ _ c.if-kind-lt1.false, lt-leb _ _ c.if-kind-gt3.true) (enough (left refl))

pub returns-then-numbers-count_from : goal.returns-then-numbers-count_from
unfolding step_told
returns-then-numbers-count_from c = rw (← c.count_from.ensures, le-leb _ _ c.if-states-lt13.false, le-leb _ _ c.if-held-lt7.false, le-leb _ _ c.if-kind-lt1.false, le-leb _ _ c.if-kind-gt3.false, lt-leb _ _ c.if-numbers-count_from.true) (enough (short _))

pub returns-then-record_wrong : goal.returns-then-record_wrong
unfolding step_told
returns-then-record_wrong c = rw (← c.count_from.ensures, ← c.record_wrong.ensures, le-leb _ _ c.if-states-lt13.false, le-leb _ _ c.if-held-lt7.false, le-leb _ _ c.if-kind-lt1.false, le-leb _ _ c.if-kind-gt3.false, le-leb _ _ c.if-numbers-count_from.false, c.if-record_wrong.true) (enough (enough (left refl)))

pub returns-then-held_wrong : goal.returns-then-held_wrong
unfolding step_told
returns-then-held_wrong c = rw (← c.count_from.ensures, ← c.record_wrong.ensures, ← c.held_wrong.ensures, le-leb _ _ c.if-states-lt13.false, le-leb _ _ c.if-held-lt7.false, le-leb _ _ c.if-kind-lt1.false, le-leb _ _ c.if-kind-gt3.false, le-leb _ _ c.if-numbers-count_from.false, c.if-record_wrong.false, c.if-held_wrong.true) (enough (enough (left refl)))

pub returns : goal.returns
unfolding step_told
returns c =
    let m = to_z-of_z {w = w64} {z = c.args.time} c.ranges.time in
    rw (← c.count_from.ensures, ← c.record_wrong.ensures, ← c.held_wrong.ensures, le-leb _ _ c.if-states-lt13.false, le-leb _ _ c.if-held-lt7.false, le-leb _ _ c.if-kind-lt1.false, le-leb _ _ c.if-kind-gt3.false, le-leb _ _ c.if-numbers-count_from.false, c.if-record_wrong.false, c.if-held_wrong.false)
    (enough (enough (rw (c.step-s.ensures, c.replay_from-p.ensures, c.record_from-r.ensures, m) at c.give_answer.ensures)))
