-- The tests in their order. Assumes nothing.
use Prim.Native.Nat.{ℕ, ◌+◌, ◌-◌}
use native.Mathlib.Omega.{arith}
use mathlib.Core.Path.{◌≡◌, sym, ap, ◌∙◌}
use mathlib.Core.Bool.{false}
use lib.ListN.{length}
use lib.Dec.{ltb}
use borrow.Author.Tests.{ltb-false, not-false}
use Rattle.stream.specs.Stream.{most_bytes}
use Rattle.stream.proofs.Opens.{sound, is-passed, is-empty}
use mathlib.Core.Bool.{not}
use Rattle.stream.proofs.take_open.Goals as goal

pub returns-then-from-part : goal.returns-then-from-part
returns-then-from-part c =
    let a = c.args in
    let l : c.saturating_sub.result ≡ length a.part.now - a.from = omega arith in
    let e : ltb most_bytes (a.place.at + a.kept + (length a.part.now - a.from)) ≡ false = sym (c.passes.ensures ∙ ap (λ (j : ℕ). ltb most_bytes (a.place.at + a.kept + j)) l) ∙ c.if-passes.false in
    let h = c.if-room-lt62.false in
    let s = sym c.is_sound.ensures ∙ not-false _ (ap not c.if-not-is_sound.false) in
    let x = is-passed a.place a.kept a.room.now a.part.now a.from e h s in
    let y = is-empty a.place a.kept a.room.now a.part.now a.from (sound a.place a.kept a.room.now h s) h c.if-from-part.true in
    (y.0 ∙ x.0, y.1 ∙ x.1)

pub go_on-requires : goal.go_on-requires
go_on-requires c =
    let a = c.args in
    let l : c.saturating_sub.result ≡ length a.part.now - a.from = omega arith in
    let e : ltb most_bytes (a.place.at + a.kept + (length a.part.now - a.from)) ≡ false = sym (c.passes.ensures ∙ ap (λ (j : ℕ). ltb most_bytes (a.place.at + a.kept + j)) l) ∙ c.if-passes.false in
    let h = c.if-room-lt62.false in
    let s = sound a.place a.kept a.room.now h (sym c.is_sound.ensures ∙ not-false _ (ap not c.if-not-is_sound.false)) in
    (h, omega (arith, c.if-from-part.false), omega (arith, s.fits, h), s.unfinished, s.allowed, ltb-false _ _ e)
