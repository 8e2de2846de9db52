-- Each kind by its numbers. Assumes nothing.
use mir.Syntax.{w16, w64}
use mir.Facts.{to_z-of_z}
use Rattle.text.proofs.Lays.{and_then}
use Rattle.script.proofs.records.record_lines.Goals as goal

pub returns-in-State : goal.returns-in-State
returns-in-State c =
    let t = to_z-of_z {w = w64} {z = c.in-State.x.time} (record { sfits = c.struct_told-1.given.1.1.0.1 }) in
    let o = to_z-of_z {w = w16} {z = c.args.offset} c.ranges.offset in
    let p = rw (t, o) at c.front-a.ensures in
    rw c.in-State.is (and_then p (and_then c.body-b.ensures c.back.ensures))

pub returns-in-Burn : goal.returns-in-Burn
returns-in-Burn c =
    let t = to_z-of_z {w = w64} {z = c.in-Burn.x.time} (record { sfits = c.struct_told-in-Burn-1.given.1.0.1 }) in
    let o = to_z-of_z {w = w16} {z = c.args.offset} c.ranges.offset in
    let p = rw (t, o) at c.front-a-in-Burn.ensures in
    rw c.in-Burn.is (and_then p c.back-in-Burn.ensures)

pub returns-in-Mark : goal.returns-in-Mark
returns-in-Mark c =
    let t = to_z-of_z {w = w64} {z = c.in-Mark.x.time} (record { sfits = c.struct_told-in-Mark-1.given.1.0.1 }) in
    let o = to_z-of_z {w = w16} {z = c.args.offset} c.ranges.offset in
    let p = rw (t, o) at c.front-a-in-Mark.ensures in
    rw c.in-Mark.is (and_then p c.back-in-Mark.ensures)
