-- The fields one behind the other, the first put last. Assumes nothing.
use Prim.Native.Nat.{ℕ}
use native.Mathlib.Omega.{arith}
use mathlib.Core.Path.{◌≡◌, ap, ◌∙◌}
use mathlib.Core.List.{◌++◌}
use mir.Syntax.{w16}
use mir.Facts.{to_z-of_z}
use Rattle.field.specs.Bytes.{bytes_le, short_bits}
use Rattle.session.specs.Offset.{offset_bytes}
use Rattle.field.proofs.Bytes.{bytes-length}
use Rattle.text.proofs.Stand.{then, earlier, same_size}
use Rattle.writer.proofs.Laws.{offset-rest}
use Rattle.writer.proofs.offset.put_offset.Goals as goal

pub put_field-b-requires : goal.put_field-b-requires
put_field-b-requires c =
    let p = c.put_field-a.ensures in
    omega (arith, p.next, bytes-length 2 4, same_size p, c.requires)

pub put_field-c-requires : goal.put_field-c-requires
put_field-c-requires c =
    let p = c.put_field-a.ensures in
    let q = c.put_field-b.ensures in
    omega (arith, p.next, q.next, bytes-length 2 4, bytes-length 2 c.short_bits-bits.result, same_size p, same_size q, c.requires)

pub returns : goal.returns
returns c =
    let a = c.args in
    let z = to_z-of_z {w = w16} {z = a.minutes} c.ranges.minutes in
    let m : c.short_bits-bits.result ≡ short_bits a.minutes = c.short_bits-bits.ensures ∙ ap short_bits z in
    let x = c.short_bits-bits.result in
    let f = c.put_field.ensures in
    let e : c.put_field.result ≡ 2 = omega (arith, f.next, bytes-length 2 8) in
    let k : bytes_le 2 8 ++ (bytes_le 2 4 ++ bytes_le 2 x ++ bytes_le 2 0) ≡ offset_bytes a.minutes =
    offset-rest x ∙ ap (λ (n : ℕ). bytes_le 2 8 ++ bytes_le 2 4 ++ bytes_le 2 n ++ bytes_le 2 0) m in
    rw (← k) (earlier (then (then c.put_field-a.ensures c.put_field-b.ensures) c.put_field-c.ensures) (rw e at f))
