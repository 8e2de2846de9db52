-- By the case of the answer. Assumes nothing.
use native.Mathlib.Omega.{arith}
use mir.Syntax.{w64}
use mir.Facts.{to_z-of_z}
use Rattle.library_solves.specs.Solves.{tried_told}
use Rattle.lent.proofs.Gives.{put-wholes, left-wholes}
use Rattle.library_solves.proofs.give_trial.Goals as goal

pub returns-in-Point : goal.returns-in-Point
unfolding tried_told
returns-in-Point c =
    let z = to_z-of_z {w = w64} {z = c.in-Point.n} (record { sfits = c.in-Point.known_told-1-own.given.0.1 }) in
    rw c.in-Point.is (put-wholes (rw (c.bits_of.ensures, z) at c.put_wholes.ensures) (omega arith, omega arith))

pub returns-in-NoneLeft : goal.returns-in-NoneLeft
unfolding tried_told
returns-in-NoneLeft c = rw c.in-NoneLeft.is (put-wholes c.put_wholes-in-NoneLeft.ensures (omega arith, omega arith))

pub returns-in-Refused : goal.returns-in-Refused
unfolding tried_told
returns-in-Refused c = rw c.in-Refused.is (left-wholes c.number.ensures.value)
