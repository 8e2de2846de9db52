-- Short or not, and then by the case of the line. Assumes nothing.
use native.Mathlib.Omega.{arith}
use mathlib.Core.Path.{refl}
use mathlib.Core.List.{[]}
use borrow.Author.Tests.{lt-leb, le-leb}
use Rattle.library_lines.specs.Listing.{made_number, made_wholes}
use Rattle.lent.specs.Given.{told_number, wholes_after}
use Rattle.lent.proofs.Gives.{put-wholes}
use Rattle.library_lines.proofs.give_made.Goals as goal

pub returns-then-whole-lt1 : goal.returns-then-whole-lt1
returns-then-whole-lt1 c = rw (lt-leb _ _ c.if-whole-lt1.true) (record { number = refl; wholes = refl })

pub returns-in-Ok : goal.returns-in-Ok
unfolding made_number made_wholes told_number wholes_after
returns-in-Ok c =
    let g = put-wholes {xs = []} c.put_wholes.ensures (omega arith, omega arith) in
    rw (le-leb _ _ c.if-whole-lt1.false, c.in-Ok.is) (record { number = refl; wholes = g.wholes })

pub returns-in-Err : goal.returns-in-Err
unfolding made_number made_wholes
returns-in-Err c = rw (le-leb _ _ c.if-whole-lt1.false, c.in-Err.is) (record { number = refl; wholes = refl })
