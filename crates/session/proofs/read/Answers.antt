-- The tests ahead of the record in their order; the part behind the place is decoded, and the next place is not past the
-- end. Assumes nothing.
use mir.Syntax.{w16}
use mir.Facts.{to_z-of_z}
use mir.Val.{SFits}
use native.Mathlib.Omega.{arith}
use mathlib.Core.Path.{◌≡◌, sym, ap, ◌∙◌}
use mathlib.Core.Bool.{true}
use lib.ListN.{drop}
use lib.Dec.{eqb}
use lib.IntN.{ℤ}
use borrow.Author.Tests.{le-ltb, ne_eqb, not-false}
use Rattle.session.specs.declared.Reading.TheVariants.{Offset}
use Rattle.session.specs.declared.record.Decoded.{Decoded}
use Rattle.session.specs.Limits.{offset_allowed}
use Rattle.session.specs.Offset.{decode_at}
use Rattle.session.specs.Read.{placed}
use Rattle.session.proofs.Limits.{offset-small}
use Rattle.session.proofs.Offsets.{at_offset}
use Rattle.field.proofs.Fields.{rest}
use mathlib.Core.Bool.{not}
use Rattle.session.proofs.read.Goals as goal

pub returns-in-Offset : goal.returns-in-Offset
returns-in-Offset c =
    let a = c.args in
    let e = to_z-of_z {w = w16} {z = a.place.offset} (record { sfits = c.struct_told-1.given.1.0.1 }) in
    let o : offset_allowed a.place.offset ≡ true = sym (ap offset_allowed e) ∙ sym c.offset_allowed.ensures ∙ not-false _ (ap not c.if-not-offset_allowed.false) in
    let s = a.s.now in
    let d = sym (c.decode_at.ensures ∙ ap (decode_at (eqb a.place.at 0)) (rest s a.place.at)) ∙ c.in-Offset.is in
    let z = c.in-Offset.z in
    let m = offset-small z (at_offset (eqb a.place.at 0) (drop a.place.at s) z d).allowed in
    let k : SFits w16 z = record { sfits = omega (arith, m) } in
    ap (λ (y : ℤ). Offset (record { at = 8; offset = y })) (to_z-of_z {w = w16} {z = z} k)
    ∙ ap (λ (x : Decoded). placed x a.place) (sym d)
    ∙ simp (le-ltb _ _ c.if-s-gt65536.false, o, le-ltb _ _ c.if-at-s.false, ne_eqb _ _ c.if-at-s-2.false)

pub returns-in-Refused : goal.returns-in-Refused
returns-in-Refused c =
    let a = c.args in
    let e = to_z-of_z {w = w16} {z = a.place.offset} (record { sfits = c.struct_told-1.given.1.0.1 }) in
    let o : offset_allowed a.place.offset ≡ true = sym (ap offset_allowed e) ∙ sym c.offset_allowed.ensures ∙ not-false _ (ap not c.if-not-offset_allowed.false) in
    let s = a.s.now in
    let d = sym (c.decode_at.ensures ∙ ap (decode_at (eqb a.place.at 0)) (rest s a.place.at)) ∙ c.in-Refused.is in
    ap (λ (x : Decoded). placed x a.place) (sym d)
    ∙ simp (le-ltb _ _ c.if-s-gt65536.false, o, le-ltb _ _ c.if-at-s.false, ne_eqb _ _ c.if-at-s-2.false)
