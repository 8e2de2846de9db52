-- The numbers, and what stands ahead of them. Assumes nothing.
use mir.Syntax.{w64}
use mir.Facts.{to_z-of_z}
use native.Mathlib.Omega.{arith}
use Rattle.session.proofs.Numbers.{numbers-few}
use Rattle.library_stream.specs.Parts.{step_told}
use Rattle.lent.proofs.Gives.{put}
use Rattle.library_stream.proofs.give_next.Goals as goal

pub returns : goal.returns
unfolding step_told
returns c =
    let r = c.args.r in
    let h = c.head_of-h.ensures in
    let m = to_z-of_z {w = w64} {z = c.head_of-h.result.time} (record { sfits = c.struct_told-1.given.1.1.1.0.1 }) in
    let w = rw (c.bits_of-time.ensures, m, h.3, c.offset_of-offset.ensures, h.0, h.1, h.2) at c.put_wholes.ensures in
    put c.put_record_numbers.ensures w (omega (arith, numbers-few r), omega (arith, numbers-few r)) (omega arith, omega arith)
