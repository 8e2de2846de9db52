-- It fits, or it does not. Assumes nothing.
use native.Mathlib.Omega.{arith}
use Rattle.text.proofs.Puts.{kept}
use Rattle.field.proofs.Bytes.{bytes-length}
use Rattle.field.proofs.writing.put.Goals as goal
use Rattle.field.proofs.writing.put.Goals.{then-at-buf-via-then-at-buf, then-at-buf-via-else-at-buf+then-w-buf}

pub returns-then-at-buf : goal.returns-then-at-buf
returns-then-at-buf c =
    let a = c.args in
    elim c.then-at-buf.branch [
      | then-at-buf-via-then-at-buf w ↦ kept (omega arith)
      | then-at-buf-via-else-at-buf+then-w-buf w ↦ kept (omega (arith, bytes-length a.w a.n))
    ]
