-- The tests in their order; the record stands in its place. Assumes nothing.
use Rattle.std.specs.Prelude.{Ok}
use Prim.Native.Nat.{ℕ, ◌+◌}
use mathlib.Core.Path.{◌≡◌, sym, ap, ◌∙◌}
use mathlib.Core.Bool.{true}
use mathlib.Core.List.{◌++◌}
use lib.ListN.{length, take, drop}
use borrow.Author.Tests.{not-false}
use Rattle.session.specs.Kinds.{record_length}
use Rattle.session.specs.Layout.{kind_in, bytes_of}
use Rattle.session.specs.Decode.{allowed_in}
use Rattle.session.proofs.ReadBack.{bytes-of-length}
use Rattle.writer.specs.Write.{has_room, place_behind}
use Rattle.writer.proofs.Cases.{stood}
use mathlib.Core.Bool.{not}
use Rattle.writer.proofs.record.write.Goals as goal

pub returns : goal.returns
returns c =
    let a = c.args in
    let d = a.buf.now in
    let u : allowed_in a.r ≡ true = sym c.is_allowed.ensures ∙ not-false _ (ap not c.if-not-is_allowed.false) in
    let o : has_room a.at (record_length (kind_in a.r)) (length a.buf.now) ≡ true = sym (ap (λ (n : ℕ). has_room a.at n (length a.buf.now)) c.header_of-h.ensures.0) ∙ sym c.has_room.ensures ∙ not-false _ (ap not c.if-not-has_room.false) in
    let p = c.put_record.ensures in
    let q : c.put_record.result ≡ place_behind a.at a.r = p.next ∙ ap (λ (n : ℕ). a.at + n) (bytes-of-length a.r) in
    let s = stood (allowed_in a.r) d a.at (record_length (kind_in a.r)) (bytes_of a.r) u o in
    (ap Ok q ∙ s.0, p.whole ∙ ap (λ (n : ℕ). take a.at d ++ (bytes_of a.r ++ drop n d)) q ∙ s.1)
