-- The count, the grade and the times. Assumes nothing.
use mir.Syntax.{w64}
use mir.Facts.{to_z-of_z}
use Rattle.text.proofs.Lays.{and_then}
use Rattle.solutions.specs.Solutions.{done_pieces}
use Rattle.solutions.proofs.put_done.Goals as goal

pub returns : goal.returns
unfolding done_pieces
returns c =
    let z = to_z-of_z {w = w64} {z = c.args.x.n} (record { sfits = c.struct_told-1.given.0.1 }) in
    and_then (rw z at c.put_count-a.ensures) c.put_graded.ensures
