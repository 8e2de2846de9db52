-- The header from the kind on, the payload in the part behind it, and the length filled in before them. Assumes nothing.
use mir.Syntax.{w64}
use mir.Facts.{to_z-of_z}
use Prim.Native.Nat.{◌+◌, ◌-◌, ◌≤◌}
use native.Mathlib.Omega.{arith}
use mathlib.Core.Path.{◌≡◌, ap, ◌∙◌}
use lib.ListN.{length, length-take, length-drop}
use Rattle.field.specs.Bytes.{bits_of}
use Rattle.session.specs.Layout.{kind_in, time_in, numbers_in}
use Rattle.field.proofs.Bytes.{bytes-length}
use Rattle.session.proofs.Table.{length-law}
use Rattle.session.proofs.ReadBack.{numbers-length, count-own}
use Rattle.text.proofs.Stand.{then, lent, earlier, same_size}
use Rattle.writer.proofs.Laws.{rest-length, record-bytes}
use Rattle.writer.proofs.record.put_record.Goals as goal

pub put_numbers-requires : goal.put_numbers-requires
put_numbers-requires c =
    let r = c.args.r in
    let h = c.header_of-h.result in
    let p = c.put_rest-c.ensures in
    simp (length-take, length-drop) (omega (arith, p.next, same_size p, c.requires, length-law (kind_in r), rest-length h.number h.vehicle h.byte c.bits_of-time.result))

pub returns : goal.returns
returns c =
    let a = c.args in
    let r = a.r in
    let h = c.header_of-h.result in
    let g = c.header_of-h.ensures in
    let t = c.bits_of-time.result in
    let z = to_z-of_z {w = w64} {z = h.time} (record { sfits = c.struct_told-1.given.1.1.1.1.0.1 }) in
    let m : t ≡ bits_of (time_in r) = c.bits_of-time.ensures ∙ ap bits_of (z ∙ g.4) in
    let p = c.put_rest-c.ensures in
    let o = c.put_rest-c.result in
    let d = c.put_rest-c.new.buf in
    let v = c.put_numbers.ensures in
    let l : o ≤ length d = omega (arith, p.within, same_size p) in
    let w = lent o (length d - o) (omega arith) v in
    let f = c.put_field.ensures in
    let e : c.put_field.result ≡ a.at + 2 = omega (arith, f.next, bytes-length 2 h.length) in
    let n : a.at + h.length ≡ o + c.put_numbers.result =
    omega (arith, g.0, p.next, v.next, rest-length h.number h.vehicle h.byte t, numbers-length (numbers_in r), count-own r, length-law (kind_in r)) in
    let b = record-bytes r g.0 g.1 g.2 g.3 m c.struct_told-1.given.1.1.0.1 c.struct_told-1.given.1.1.1.0.1 in
    rw (n, ← b) (earlier (then p w) (rw e at f))
