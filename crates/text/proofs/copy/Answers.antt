-- The loop has put the first i bytes of the text. Assumes nothing.
use Prim.Native.Nat.{◌+◌}
use native.Mathlib.Nat.{add-zero}
use native.Mathlib.Omega.{arith}
use mathlib.Core.Path.{◌≡◌}
use lib.ListN.{length}
use Rattle.text.specs.Text.{Stands}
use Rattle.text.proofs.Stand.{none, same_size, grow, grown}
use Rattle.text.proofs.copy.Goals as goal

pub loop-i-init : goal.loop-i-init
loop-i-init c = (c.requires, rw add-zero (none c.args.buf.now c.args.at (omega (arith, c.requires))))

pub loop-i-preserved : goal.loop-i-preserved
loop-i-preserved c =
    let l = c.loop-i in
    let i = l.invariant in
    (i.0, grow c.args.x.now l.i i.1 c.loop-i-test.true (omega (arith, same_size i.1)))

pub returns : goal.returns
returns c =
    let l = c.loop-i in
    let x = c.args.x.now in
    let e : l.i ≡ length x = omega (arith, l.auto.i-end, c.loop-i-test.false) in
    let s : Stands c.args.buf.now c.args.at x l.buf (c.args.at + l.i) = grown x l.i l.invariant.1 c.loop-i-test.false in
    rw e at s
