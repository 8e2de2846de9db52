-- Short or not, and then the stream. Assumes nothing.
use mathlib.Core.Path.{refl}
use mir.Syntax.{w16}
use mir.Facts.{to_z-of_z}
use borrow.Author.Tests.{lt-leb, le-leb}
use Rattle.session.specs.declared.Place.{Place}
use Rattle.lent.proofs.Gives.{short, enough}
use Rattle.library_stream.proofs.Numbers.{step-given}
use Rattle.library_stream.proofs.cabin_take_next.Goals as goal

pub returns-then-out-lt6 : goal.returns-then-out-lt6
returns-then-out-lt6 c = rw (lt-leb _ _ c.if-out-lt6.true) (short _, refl)

pub returns-then-whole-lt7 : goal.returns-then-whole-lt7
returns-then-whole-lt7 c = rw (le-leb _ _ c.if-out-lt6.false, lt-leb _ _ c.if-whole-lt7.true) (short _, refl)

pub returns : goal.returns
returns c =
    let a = c.args in
    let p : Place = record { at = a.at; offset = a.offset } in
    let o = to_z-of_z {w = w16} {z = a.offset} c.ranges.offset in
    let e = c.take_next.ensures in
    let g = c.give_step.ensures in
    rw (le-leb _ _ c.if-out-lt6.false, le-leb _ _ c.if-whole-lt7.false) (enough (step-given p a.kept a.room.now a.part.now a.from (rw o at e.0) g.number g.numbers g.wholes), rw o at e.1)
