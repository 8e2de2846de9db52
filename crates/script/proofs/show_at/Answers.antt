-- The room, tested once; all lines fit it. Assumes nothing.
use native.Mathlib.Omega.{arith}
use mathlib.Core.Path.{◌≡◌}
use lib.ListN.{length}
use borrow.Author.Tests.{le-ltb}
use Rattle.session.specs.Read.{read_at}
use Rattle.text.proofs.Stand.{at_front}
use Rattle.text.proofs.Lays.{all_fit}
use Rattle.script.specs.Script.{text_at}
use Rattle.script.proofs.Lengths.{all-fit-room}
use Rattle.script.proofs.show_at.Goals as goal

pub returns : goal.returns
returns c =
    let x = read_at c.args.s.now c.args.place in
    let h = c.if-buf-lt512.false in
    let l = rw c.read-r.ensures at c.lines_of-length.ensures in
    let f = at_front (all_fit l (omega (arith, all-fit-room x, h))) in
    let n = rw c.read-r.ensures at c.next_of.ensures in
    record { answer = rw (le-ltb _ _ h) (let l : c.lines_of-length.result ≡ length (text_at c.args.s.now c.args.place) = f.0 in cc); buffer = rw (le-ltb _ _ h) f.1 }
