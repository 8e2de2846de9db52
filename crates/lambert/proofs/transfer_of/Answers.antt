-- `lambert::transfer_of` meets its contract. Assumes nothing.
use Rattle.lambert.specs.Lambert.{transfer_of}
use Rattle.lambert.proofs.transfer_of.Goals as goal

pub returns : goal.returns
unfolding transfer_of
returns c =
    simp (
      c.shared_of.ensures,
      c.dot.ensures,
      c.turn_of-turn.ensures,
      c.div-u2.ensures,
      c.div-u1.ensures,
      c.length-r2.ensures,
      c.length-r1.ensures,
    )
