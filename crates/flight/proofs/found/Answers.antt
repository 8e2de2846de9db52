-- Case by case. Assumes nothing.
use mir.Syntax.{w64}
use mir.Facts.{to_z-of_z}
use Rattle.flight.specs.Flight.{flown_as}
use Rattle.flight.proofs.found.Goals as goal

pub returns-in-Found : goal.returns-in-Found
unfolding flown_as
returns-in-Found c =
    simp (c.in-Found.is, to_z-of_z {w = w64} {z = c.args.time} c.ranges.time)

pub returns-in-TooLong : goal.returns-in-TooLong
unfolding flown_as
returns-in-TooLong c = simp c.in-TooLong.is

pub returns-in-NotFinished : goal.returns-in-NotFinished
unfolding flown_as
returns-in-NotFinished c = simp c.in-NotFinished.is

pub returns-in-Refused : goal.returns-in-Refused
unfolding flown_as
returns-in-Refused c = simp c.in-Refused.is
