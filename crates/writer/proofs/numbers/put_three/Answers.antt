-- The numbers one behind the other. Assumes nothing.
use native.Mathlib.Omega.{arith}
use lib.Ieee.{to_bits, binary64}
use Rattle.field.proofs.Bytes.{bytes-length}
use Rattle.text.proofs.Stand.{then, same_size}
use Rattle.writer.proofs.Laws.{three-numbers}
use Rattle.writer.proofs.numbers.put_three.Goals as goal

pub put_number-b-requires : goal.put_number-b-requires
put_number-b-requires c =
    let a = c.args in
    let p = c.put_number-a.ensures in
    omega (arith, p.next, bytes-length 8 (to_bits binary64 a.x), same_size p, c.requires)

pub put_number-requires : goal.put_number-requires
put_number-requires c =
    let a = c.args in
    let p = c.put_number-a.ensures in
    let q = c.put_number-b.ensures in
    omega (arith, p.next, q.next, bytes-length 8 (to_bits binary64 a.x), bytes-length 8 (to_bits binary64 a.y), same_size p, same_size q, c.requires)

pub returns : goal.returns
returns c =
    let a = c.args in
    rw (three-numbers a.x a.y a.z) (then (then c.put_number-a.ensures c.put_number-b.ensures) c.put_number.ensures)
