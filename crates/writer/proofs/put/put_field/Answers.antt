-- What fits is put. Assumes nothing.
use native.Mathlib.Omega.{arith}
use Rattle.field.proofs.Bytes.{bytes-length}
use Rattle.writer.proofs.put.put_field.Goals as goal

pub returns : goal.returns
returns c =
    let a = c.args in
    c.put.ensures.fits (omega (arith, c.requires, bytes-length a.w a.n))
