-- The fields one behind the other. Assumes nothing.
use native.Mathlib.Omega.{arith}
use Rattle.field.proofs.Bytes.{bytes-length}
use Rattle.text.proofs.Stand.{then, same_size}
use Rattle.writer.proofs.record.put_rest.Goals as goal

pub put_field-b-requires : goal.put_field-b-requires
put_field-b-requires c =
    let a = c.args in
    let p = c.put_field-a.ensures in
    omega (arith, p.next, bytes-length 2 a.number, same_size p, c.requires)

pub put_field-c-requires : goal.put_field-c-requires
put_field-c-requires c =
    let a = c.args in
    let p = c.put_field-a.ensures in
    let q = c.put_field-b.ensures in
    omega (arith, p.next, q.next, bytes-length 2 a.number, bytes-length 1 a.vehicle, same_size p, same_size q, c.requires)

pub put_field-requires : goal.put_field-requires
put_field-requires c =
    let a = c.args in
    let p = c.put_field-a.ensures in
    let q = c.put_field-b.ensures in
    let u = c.put_field-c.ensures in
    omega (arith, p.next, q.next, u.next, bytes-length 2 a.number, bytes-length 1 a.vehicle, bytes-length 1 a.byte, same_size p, same_size q, same_size u, c.requires)

pub returns : goal.returns
returns c =
    then (then (then c.put_field-a.ensures c.put_field-b.ensures) c.put_field-c.ensures) c.put_field.ensures
