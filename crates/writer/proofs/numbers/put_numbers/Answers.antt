-- Each kind's numbers, by threes. Assumes nothing.
use native.Mathlib.Omega.{arith}
use mathlib.Core.Path.{◌≡◌, ap, ◌∙◌}
use mathlib.Core.List.{[], ◌∷◌, ◌++◌}
use lib.Ieee.{to_bits, binary64}
use Rattle.session.specs.declared.record.Record.{Record}
use Rattle.session.specs.Layout.{numbers_in, number_bytes}
use Rattle.field.proofs.Bytes.{bytes-length}
use Rattle.session.proofs.ReadBack.{numbers-length}
use Rattle.text.proofs.Stand.{then, same_size}
use Rattle.writer.proofs.Laws.{eight, two-numbers, more_numbers}
use Rattle.writer.proofs.numbers.put_numbers.Goals as goal

pub put_three-requires : goal.put_three-requires
put_three-requires c =
    let s = c.in-State.x.state in
    let p = s.rx ∷ s.ry ∷ s.rz ∷ [] in
    let g = rw c.in-State.is at c.requires in
    let q = c.put_three-a.ensures in
    omega (arith, q.next, numbers-length p, same_size q, g)

pub put_number-requires : goal.put_number-requires
put_number-requires c =
    let g = rw c.in-Mark.is at c.requires in
    let q = c.put_number-a.ensures in
    omega (arith, q.next, bytes-length 8 (to_bits binary64 c.in-Mark.x.range), same_size q, g)

pub returns-in-State : goal.returns-in-State
returns-in-State c =
    let s = c.in-State.x.state in
    let p = s.rx ∷ s.ry ∷ s.rz ∷ [] in
    let v = s.vx ∷ s.vy ∷ s.vz ∷ [] in
    let e : number_bytes (numbers_in c.args.r) ≡ number_bytes p ++ number_bytes v = ap (λ (r : Record). number_bytes (numbers_in r)) c.in-State.is ∙ more_numbers p v in
    rw e (then c.put_three-a.ensures c.put_three.ensures)

pub returns-in-Mark : goal.returns-in-Mark
returns-in-Mark c =
    let e : number_bytes (numbers_in c.args.r) ≡ eight c.in-Mark.x.range ++ eight c.in-Mark.x.rate = ap (λ (r : Record). number_bytes (numbers_in r)) c.in-Mark.is ∙ two-numbers c.in-Mark.x.range c.in-Mark.x.rate in
    rw e (then c.put_number-a.ensures c.put_number.ensures)
