-- The tests in their order; the record stands at the front. Assumes nothing.
use Rattle.std.specs.Prelude.{Ok}
use Prim.Native.Nat.{ℕ, ◌+◌}
use native.Mathlib.Omega.{arith}
use mathlib.Core.Path.{◌≡◌, sym, ap, ◌∙◌}
use mathlib.Core.Bool.{true}
use mathlib.Core.List.{◌++◌}
use lib.ListN.{length, take, drop}
use lib.Dec.{eqb}
use mir.Syntax.{w16}
use mir.Facts.{to_z-of_z}
use borrow.Author.Tests.{not-false, eqb-true}
use Rattle.facts.proofs.Truth.{each}
use Rattle.session.specs.Limits.{offset_allowed}
use Rattle.session.specs.Offset.{offset_bytes}
use Rattle.text.specs.Text.{Stands}
use Rattle.writer.specs.Write.{has_room, offset_may}
use Rattle.writer.proofs.Laws.{offset-length}
use Rattle.writer.proofs.Cases.{stood}
use mathlib.Core.Bool.{not}
use Rattle.writer.proofs.offset.write_offset.Goals as goal

pub returns : goal.returns
returns c =
    let a = c.args in
    let d = a.buf.now in
    let z = to_z-of_z {w = w16} {z = a.minutes} c.ranges.minutes in
    let u : offset_may a.at a.minutes ≡ true = sym (ap (offset_may a.at) z) ∙ sym c.is_allowed.ensures ∙ not-false _ (ap not c.if-not-is_allowed.false) in
    let o : has_room a.at 8 (length d) ≡ true = sym c.has_room.ensures ∙ not-false _ (ap not c.if-not-has_room.false) in
    let y : a.at ≡ 0 = eqb-true a.at 0 (each (eqb a.at 0) (offset_allowed a.minutes) u).0 in
    let p : Stands d 0 (offset_bytes a.minutes) c.put_offset.new.buf c.put_offset.result = rw z at c.put_offset.ensures in
    let q : c.put_offset.result ≡ a.at + 8 = omega (arith, p.next, offset-length a.minutes, y) in
    let s = stood (offset_may a.at a.minutes) d a.at 8 (offset_bytes a.minutes) u o in
    (ap Ok q ∙ s.0, p.whole ∙ ap (λ (n : ℕ). take 0 d ++ (offset_bytes a.minutes ++ drop n d)) q ∙ ap (λ (n : ℕ). take n d ++ (offset_bytes a.minutes ++ drop (a.at + 8) d)) (sym y) ∙ s.1)
