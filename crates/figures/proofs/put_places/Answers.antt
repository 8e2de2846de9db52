-- The loop has put all places but the first i: whoever puts those, the last i of m, gets the whole. Assumes nothing.
use native.Mathlib.Nat.{add-zero}
use native.Mathlib.Omega.{arith}
use mathlib.Core.Path.{◌≡◌}
use lib.ListN.{length-set}
use Rattle.text.proofs.Stand.{none, last-first}
use Rattle.figures.specs.Figures.{places}
use Rattle.figures.proofs.Places.{places-more, last-digit}
use Rattle.figures.proofs.put_places.Goals as goal

pub loop-i-preserved : goal.loop-i-preserved
loop-i-preserved c =
    let l = c.loop-i in
    let t = c.loop-i-test.true in
    let b = c.args.base in
    let h = c.requires in (
      simp length-set l.invariant.0,
      simp length-set (omega arith),
      λ f p. l.invariant.2 f
          (rw (places-more b l.i l.m t, ← last-digit b l.m h.1 h.2, ← c.digit.ensures)
          (last-first l.i c.digit.result t l.invariant.1 p)),
    )

pub returns : goal.returns
unfolding places
returns c =
    let l = c.loop-i in
    let z : l.i ≡ 0 = omega arith in
    l.invariant.2 l.buf (rw (z, add-zero) (none l.buf c.args.at (omega arith)))
