-- `lambert::turn_of` meets its contract. Assumes nothing.
use Rattle.lambert.specs.Lambert.{turn_of}
use Rattle.lambert.proofs.turn_of.Goals as goal

pub returns-in-Short : goal.returns-in-Short
unfolding turn_of
returns-in-Short c =
    simp (c.in-Short.is, c.div-normal.ensures, c.length-size.ensures, c.cross-h.ensures)

pub returns-in-Long : goal.returns-in-Long
unfolding turn_of
returns-in-Long c =
    simp (
      c.in-Long.is,
      c.neg.ensures,
      c.div-normal.ensures,
      c.length-size.ensures,
      c.cross-h.ensures,
    )

pub returns-in-Normal : goal.returns-in-Normal
unfolding turn_of
returns-in-Normal c =
    simp (
      c.in-Normal.is,
      c.dot.ensures,
      c.div-normal.ensures,
      c.length-size.ensures,
      c.cross-h.ensures,
    )
