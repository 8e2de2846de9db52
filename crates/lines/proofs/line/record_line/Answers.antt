-- Each kind by its time, offset and vehicle. Assumes nothing.
use mir.Syntax.{w16, w64}
use mir.Val.{SFits}
use mir.Facts.{to_z-of_z}
use Rattle.session.specs.declared.record.Kind.TheVariants.{State, Burn, Mark}
use Rattle.lines.specs.Days.{local_of}
use Rattle.lines.specs.Lines.{line_room}
use Rattle.lines.proofs.Locals.{local-small}
use Rattle.text.proofs.Lays.{all_fit}
use Rattle.lines.proofs.Sizes.{event-fits}
use Rattle.text.proofs.Fronts.{in_front_lem}
use Rattle.lines.proofs.line.record_line.Goals as goal

pub returns-in-State : goal.returns-in-State
returns-in-State c =
    let o = c.args.offset in
    let t = c.in-State.x.time in
    let h : SFits w64 t = record { sfits = c.struct_told-1.given.1.1.0.1 } in
    let s = to_z-of_z {w = w64} {z = t} h in
    let u = to_z-of_z {w = w16} {z = o} c.ranges.offset in
    let l = local-small t o h c.ranges.offset in
    rw c.in-State.is (in_front_lem {room = line_room} c.if-buf-lt40.false (event-fits (local_of t o) c.in-State.x.vehicle State l c.struct_told-1.given.0.1) (all_fit (rw (s, u) at c.event.ensures)))

pub returns-in-Burn : goal.returns-in-Burn
returns-in-Burn c =
    let o = c.args.offset in
    let t = c.in-Burn.x.time in
    let h : SFits w64 t = record { sfits = c.struct_told-in-Burn-1.given.1.0.1 } in
    let s = to_z-of_z {w = w64} {z = t} h in
    let u = to_z-of_z {w = w16} {z = o} c.ranges.offset in
    let l = local-small t o h c.ranges.offset in
    rw c.in-Burn.is (in_front_lem {room = line_room} c.if-buf-lt40.false (event-fits (local_of t o) c.in-Burn.x.vehicle Burn l c.struct_told-in-Burn-1.given.0.1) (all_fit (rw (s, u) at c.event-in-Burn.ensures)))

pub returns-in-Mark : goal.returns-in-Mark
returns-in-Mark c =
    let o = c.args.offset in
    let t = c.in-Mark.x.time in
    let h : SFits w64 t = record { sfits = c.struct_told-in-Mark-1.given.1.0.1 } in
    let s = to_z-of_z {w = w64} {z = t} h in
    let u = to_z-of_z {w = w16} {z = o} c.ranges.offset in
    let l = local-small t o h c.ranges.offset in
    rw c.in-Mark.is (in_front_lem {room = line_room} c.if-buf-lt40.false (event-fits (local_of t o) c.in-Mark.x.vehicle Mark l c.struct_told-in-Mark-1.given.0.1) (all_fit (rw (s, u) at c.event-in-Mark.ensures)))
