-- What fits is put. Assumes nothing.
use native.Mathlib.Omega.{arith}
use lib.Ieee.{to_bits, binary64}
use Rattle.field.proofs.Bytes.{bytes-length}
use Rattle.writer.proofs.put.put_number.Goals as goal

pub returns : goal.returns
returns c =
    let a = c.args in
    c.put_float.ensures.fits (omega (arith, c.requires, bytes-length 8 (to_bits binary64 a.x)))
