-- Each answer by what is decoded of the kept bytes and the part's. Assumes nothing.
use mir.Syntax.{w16}
use mir.Val.{SFits}
use mir.Facts.{to_z-of_z}
use Prim.Native.Nat.{◌+◌, ◌-◌}
use native.Mathlib.Omega.{arith}
use mathlib.Core.Path.{◌≡◌, sym, ap, ◌∙◌}
use lib.ListN.{take}
use lib.Dec.{eqb}
use lib.IntN.{ℤ}
use Rattle.session.specs.declared.record.Decoded.TheVariants as D
use Rattle.session.proofs.Limits.{offset-small}
use Rattle.session.proofs.Offsets.{at_offset}
use Rattle.stream.specs.declared.Step.TheVariants as S
use Rattle.refusal.specs.Refusals.{number_of}
use borrow.Author.Tests.{eqb-false}
use mathlib.Core.Bool.{false}
use Rattle.stream.specs.Stream.{found_at, is_cut}
use Rattle.stream.proofs.Steps.{cut-eleven, Lies, filled, record-fits, is-record, offset-within, is_offset_lem, is-cut-short, is-refused, kept-short}
use Rattle.stream.proofs.go_on.Goals as goal

pub add-seen-requires : goal.add-seen-requires
add-seen-requires c =
    let p = c.requires in
    let a = c.args in
    (p.0, p.1, kept-short a.place a.kept a.room.now p.2 p.3)

pub overflow_add-result : goal.overflow_add-result
overflow_add-result c =
    let p = c.requires in
    let a = c.args in
    let n = c.add-seen.result in
    let e = c.add-seen.new.room in
    let g : Lies a.place a.kept a.from n a.room.now a.part.now e = record { fits = p.2; unfinished = p.3; allowed = p.4; stands = c.add-seen.ensures } in
    let i : found_at a.place (take n e) ≡ D.Whole c.in-Whole.r c.in-Whole.n = sym c.decode_at-decoded.ensures ∙ c.in-Whole.is in
    omega (arith, (record-fits g i).0, (record-fits g i).1, p.5)

pub overflow_sub-result : goal.overflow_sub-result
overflow_sub-result c =
    let p = c.requires in
    let a = c.args in
    let n = c.add-seen.result in
    let e = c.add-seen.new.room in
    let g : Lies a.place a.kept a.from n a.room.now a.part.now e = record { fits = p.2; unfinished = p.3; allowed = p.4; stands = c.add-seen.ensures } in
    let i : found_at a.place (take n e) ≡ D.Whole c.in-Whole.r c.in-Whole.n = sym c.decode_at-decoded.ensures ∙ c.in-Whole.is in
    omega (arith, (record-fits g i).0)

pub overflow_add-result-in-Whole : goal.overflow_add-result-in-Whole
overflow_add-result-in-Whole c =
    let p = c.requires in
    let a = c.args in
    let n = c.add-seen.result in
    let e = c.add-seen.new.room in
    let g : Lies a.place a.kept a.from n a.room.now a.part.now e = record { fits = p.2; unfinished = p.3; allowed = p.4; stands = c.add-seen.ensures } in
    let i : found_at a.place (take n e) ≡ D.Whole c.in-Whole.r c.in-Whole.n = sym c.decode_at-decoded.ensures ∙ c.in-Whole.is in
    omega (arith, (record-fits g i).1, p.1)

pub overflow_sub-result-in-Offset : goal.overflow_sub-result-in-Offset
overflow_sub-result-in-Offset c =
    let p = c.requires in
    let a = c.args in
    let n = c.add-seen.result in
    let e = c.add-seen.new.room in
    let g : Lies a.place a.kept a.from n a.room.now a.part.now e = record { fits = p.2; unfinished = p.3; allowed = p.4; stands = c.add-seen.ensures } in
    let z = c.in-Offset.z in
    let i : found_at a.place (take n e) ≡ D.Offset z = sym c.decode_at-decoded.ensures ∙ c.in-Offset.is in
    omega (arith, (offset-within g i).0)

pub returns-then-is_cut : goal.returns-then-is_cut
returns-then-is_cut c =
    let p = c.requires in
    let a = c.args in
    let n = c.add-seen.result in
    let e = c.add-seen.new.room in
    let g : Lies a.place a.kept a.from n a.room.now a.part.now e = record { fits = p.2; unfinished = p.3; allowed = p.4; stands = c.add-seen.ensures } in
    let i = cut-eleven (found_at a.place (take n e)) (sym (ap is_cut c.decode_at-decoded.ensures) ∙ sym c.is_cut.ensures ∙ c.if-is_cut.true) in
    (is-cut-short g i, filled g)

pub returns-in-Whole : goal.returns-in-Whole
returns-in-Whole c =
    let p = c.requires in
    let a = c.args in
    let n = c.add-seen.result in
    let e = c.add-seen.new.room in
    let g : Lies a.place a.kept a.from n a.room.now a.part.now e = record { fits = p.2; unfinished = p.3; allowed = p.4; stands = c.add-seen.ensures } in
    let i : found_at a.place (take n e) ≡ D.Whole c.in-Whole.r c.in-Whole.n = sym c.decode_at-decoded.ensures ∙ c.in-Whole.is in
    let m = c.in-Whole.n in
    let o = to_z-of_z {w = w16} {z = a.place.offset} (record { sfits = c.struct_told-1.given.1.0.1 }) in
    (ap (λ (y : ℤ). S.Record c.in-Whole.r (record { at = a.place.at + m; offset = y }) (a.from + (m - a.kept))) o ∙ is-record g i, filled g)

pub returns-in-Offset : goal.returns-in-Offset
returns-in-Offset c =
    let p = c.requires in
    let a = c.args in
    let n = c.add-seen.result in
    let e = c.add-seen.new.room in
    let g : Lies a.place a.kept a.from n a.room.now a.part.now e = record { fits = p.2; unfinished = p.3; allowed = p.4; stands = c.add-seen.ensures } in
    let z = c.in-Offset.z in
    let i : found_at a.place (take n e) ≡ D.Offset z = sym c.decode_at-decoded.ensures ∙ c.in-Offset.is in
    let m = offset-small z (at_offset (eqb a.place.at 0) (take n e) z i).allowed in
    let k : SFits w16 z = record { sfits = omega (arith, m) } in
    (ap (λ (y : ℤ). S.Offset (record { at = 8; offset = y }) (a.from + (8 - a.kept))) (to_z-of_z {w = w16} {z = z} k) ∙ is_offset_lem g i, filled g)

pub returns-in-Refused : goal.returns-in-Refused
returns-in-Refused c =
    let p = c.requires in
    let a = c.args in
    let n = c.add-seen.result in
    let e = c.add-seen.new.room in
    let g : Lies a.place a.kept a.from n a.room.now a.part.now e = record { fits = p.2; unfinished = p.3; allowed = p.4; stands = c.add-seen.ensures } in
    let m = c.in-Refused.refusal in
    let i : found_at a.place (take n e) ≡ D.Refused m = sym c.decode_at-decoded.ensures ∙ c.in-Refused.is in
    let w : eqb (number_of m) 11 ≡ false = sym (ap is_cut c.in-Refused.is) ∙ sym c.is_cut.ensures ∙ c.if-is_cut.false in
    (ap S.Stopped c.refuse.ensures ∙ is-refused g m (eqb-false (number_of m) 11 w) i, filled g)
