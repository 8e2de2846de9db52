-- Short or not, and then the burn. Assumes nothing.
use mir.Syntax.{w64}
use mir.Facts.{to_z-of_z}
use borrow.Author.Tests.{lt-leb, le-leb}
use Rattle.lent.proofs.Gives.{short, enough}
use Rattle.library_burn.proofs.cabin_constant_height.Goals as goal

pub returns-then-active-lt6 : goal.returns-then-active-lt6
returns-then-active-lt6 c = rw (lt-leb _ _ c.if-active-lt6.true) (short _)

pub returns-then-passive-lt6 : goal.returns-then-passive-lt6
returns-then-passive-lt6 c = rw (le-leb _ _ c.if-active-lt6.false, lt-leb _ _ c.if-passive-lt6.true) (short _)

pub returns-then-out-lt5 : goal.returns-then-out-lt5
returns-then-out-lt5 c = rw (le-leb _ _ c.if-active-lt6.false, le-leb _ _ c.if-passive-lt6.false, lt-leb _ _ c.if-out-lt5.true) (short _)

pub returns-then-whole-lt1 : goal.returns-then-whole-lt1
returns-then-whole-lt1 c = rw (le-leb _ _ c.if-active-lt6.false, le-leb _ _ c.if-passive-lt6.false, le-leb _ _ c.if-out-lt5.false, lt-leb _ _ c.if-whole-lt1.true) (short _)

pub returns : goal.returns
returns c =
    rw (le-leb _ _ c.if-active-lt6.false, le-leb _ _ c.if-passive-lt6.false, le-leb _ _ c.if-out-lt5.false, le-leb _ _ c.if-whole-lt1.false)
    (enough (rw (c.constant_height.ensures, to_z-of_z {w = w64} {z = c.args.ta} c.ranges.ta, to_z-of_z {w = w64} {z = c.args.tp} c.ranges.tp, to_z-of_z {w = w64} {z = c.args.t2} c.ranges.t2, to_z-of_z {w = w64} {z = c.args.t3} c.ranges.t3, c.state_in-p.ensures, c.state_in-a.ensures) at c.give_burn.ensures))
