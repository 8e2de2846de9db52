-- Whoever puts the bytes that are left behind those that are put gets the whole. Assumes nothing.
use Prim.Native.Nat.{◌+◌, ◌-◌, ◌%◌, ◌<◌}
use native.Mathlib.Omega.{arith}
use mathlib.Core.Path.{◌≡◌, refl}
use lib.ListN.{length, length-set}
use Rattle.text.proofs.Stand.{then, one, none}
use Rattle.field.proofs.Bytes.{bytes-none, bytes-more}
use Rattle.field.proofs.writing.put_le.Goals as goal

pub loop-i-init : goal.loop-i-init
loop-i-init c =
    let a = c.args in
    let e : a.at + a.w - a.at ≡ a.w = omega arith in
    (omega arith, refl, λ f r p. rw e at p)

pub loop-i-preserved : goal.loop-i-preserved
loop-i-preserved c =
    let l = c.loop-i in
    let end = c.args.at + c.args.w in
    let h : l.i < length l.buf = omega arith in
    let e : end - (l.i + 1) ≡ end - l.i - 1 = omega arith in (
      simp length-set l.invariant.0,
      simp length-set l.invariant.1,
      λ f r p.
          l.invariant.2 f r
          (rw (bytes-more (end - l.i) l.rest (λ (z : end - l.i ≡ 0). let x : ⊥ = omega arith in x)) (then (one l.buf l.i (l.rest % 256) h) (rw e at p))),
    )

pub returns : goal.returns
returns c =
    let l = c.loop-i in
    let end = c.args.at + c.args.w in
    let z : end - l.i ≡ 0 = omega arith in
    let j : l.i ≡ end = omega arith in
    l.invariant.2 l.buf end (rw (bytes-none (end - l.i) l.rest z, j) (none l.buf end l.invariant.0))
