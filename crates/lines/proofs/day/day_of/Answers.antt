-- The minutes are added to the cs, and the days that this makes to the days; no sum is lost. Assumes nothing.
use native.Mathlib.Omega.{arith}
use mathlib.Core.Path.{◌≡◌, sym, ap, ◌∙◌}
use lib.IntN.{ℤ, pos, ◌+ℤ◌, ◌*ℤ◌}
use mir.Syntax.{w16, w64}
use mir.Val.{to_z, of_z}
use mir.Facts.{to_z-of_z, to_z_pos}
use Rattle.lines.specs.Days.{local_of, day_of, cs_of}
use Rattle.lines.proofs.DayLaws.{cs-below}
use Rattle.lines.proofs.Locals.{shift, day-fits, minutes-fit, shifted-small, local-small}
use Rattle.lines.proofs.day.day_of.Goals as goal

pub overflow_add-result : goal.overflow_add-result
overflow_add-result c =
    let a = c.args in
    let f = c.ranges in
    let s = to_z-of_z {w = w64} {z = a.time} f.time in
    let h = shifted-small a.time a.offset f.time f.offset in
    let x = pos (cs_of a.time) +ℤ pos 6000 *ℤ a.offset in
    let y : c.split-d.result.cs ≡ cs_of a.time = rw s at c.split-d.ensures.1 in
    let d : to_z w64 c.split-d.result.cs ≡ pos (cs_of a.time) = ap (to_z w64) y ∙ to_z_pos w64 (omega (arith, cs-below a.time)) in
    let o = to_z-of_z {w = w16} {z = a.offset} f.offset in
    let p = to_z-of_z {w = w64} {z = a.offset} (record { sfits = omega (arith, f.offset.sfits) }) in
    let m = to_z-of_z {w = w64} {z = pos 6000 *ℤ a.offset} (minutes-fit a.time a.offset f.time f.offset) in
    let q = to_z-of_z {w = w64} {z = x} (record { sfits = omega (arith, h) }) in
    let i : c.split-d.result.day ≡ day_of a.time = rw s at c.split-d.ensures.0 in
    let j : c.split-e.result.day ≡ day_of x = rw (d, o, p, m, q) at c.split-e.ensures.0 in
    let k : to_z w64 (of_z w64 c.split-d.result.day) ≡ day_of a.time =
    ap (λ (z : ℤ). to_z w64 (of_z w64 z)) i ∙ to_z-of_z {w = w64} {z = day_of a.time} (day-fits a.time (omega (arith, f.time.sfits))) in
    let l : to_z w64 (of_z w64 c.split-e.result.day) ≡ day_of x =
    ap (λ (z : ℤ). to_z w64 (of_z w64 z)) j ∙ to_z-of_z {w = w64} {z = day_of x} (day-fits x (omega (arith, h))) in
    let u = shift a.time (pos 6000 *ℤ a.offset) in
    let g = day-fits (local_of a.time a.offset) (local-small a.time a.offset f.time f.offset) in
    rw (k, l, sym u.0) g

pub returns : goal.returns
returns c =
    let a = c.args in
    let f = c.ranges in
    let s = to_z-of_z {w = w64} {z = a.time} f.time in
    let h = shifted-small a.time a.offset f.time f.offset in
    let x = pos (cs_of a.time) +ℤ pos 6000 *ℤ a.offset in
    let y : c.split-d.result.cs ≡ cs_of a.time = rw s at c.split-d.ensures.1 in
    let d : to_z w64 c.split-d.result.cs ≡ pos (cs_of a.time) = ap (to_z w64) y ∙ to_z_pos w64 (omega (arith, cs-below a.time)) in
    let o = to_z-of_z {w = w16} {z = a.offset} f.offset in
    let p = to_z-of_z {w = w64} {z = a.offset} (record { sfits = omega (arith, f.offset.sfits) }) in
    let m = to_z-of_z {w = w64} {z = pos 6000 *ℤ a.offset} (minutes-fit a.time a.offset f.time f.offset) in
    let q = to_z-of_z {w = w64} {z = x} (record { sfits = omega (arith, h) }) in
    let i : c.split-d.result.day ≡ day_of a.time = rw s at c.split-d.ensures.0 in
    let j : c.split-e.result.day ≡ day_of x = rw (d, o, p, m, q) at c.split-e.ensures.0 in
    let k : to_z w64 (of_z w64 c.split-d.result.day) ≡ day_of a.time =
    ap (λ (z : ℤ). to_z w64 (of_z w64 z)) i ∙ to_z-of_z {w = w64} {z = day_of a.time} (day-fits a.time (omega (arith, f.time.sfits))) in
    let l : to_z w64 (of_z w64 c.split-e.result.day) ≡ day_of x =
    ap (λ (z : ℤ). to_z w64 (of_z w64 z)) j ∙ to_z-of_z {w = w64} {z = day_of x} (day-fits x (omega (arith, h))) in
    let u = shift a.time (pos 6000 *ℤ a.offset) in
    let g = day-fits (local_of a.time a.offset) (local-small a.time a.offset f.time f.offset) in
    let r : c.split-e.result.cs ≡ cs_of x = rw (d, o, p, m, q) at c.split-e.ensures.1 in
    (rw (k, l, sym u.0) (to_z-of_z {w = w64} {z = day_of (local_of a.time a.offset)} g), r ∙ sym u.1)
