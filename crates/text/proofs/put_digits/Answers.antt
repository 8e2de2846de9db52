-- The loop has put all digits but the first i: whoever puts those, the last i of m, gets the whole. The measure is i. Assumes nothing.
use Prim.Native.Nat.{ℕ, ◌+◌, ◌%◌}
use native.Mathlib.Nat.{add-zero}
use native.Mathlib.Omega.{arith}
use mathlib.Core.Path.{◌≡◌, refl, sym, ap, ◌∙◌}
use lib.ListN.{length-set}
use Rattle.text.specs.Text.{decimal}
use Rattle.text.proofs.Stand.{none, last-first}
use Rattle.text.proofs.Decimals.{lasts, lasts-more, all-lasts}
use Rattle.text.proofs.put_digits.Goals as goal

pub loop-i-init : goal.loop-i-init
loop-i-init c =
    let a = c.args in
    let e : decimal a.n ≡ lasts a.k a.n = all-lasts 20 a.n ∙ ap (λ (k : ℕ). lasts k a.n) (sym c.requires.0) in
    (refl, c.requires.1, λ f p. rw e p)

pub loop-i-preserved : goal.loop-i-preserved
loop-i-preserved c =
    let l = c.loop-i in
    let t = c.loop-i-test.true in (
      simp length-set l.invariant.0,
      simp length-set (omega arith),
      λ f p. l.invariant.2 f (rw (lasts-more l.i l.m t) (last-first l.i (48 + l.m % 10) t l.invariant.1 p)),
    )

pub returns : goal.returns
unfolding lasts
returns c =
    let l = c.loop-i in
    let z : l.i ≡ 0 = omega arith in
    l.invariant.2 l.buf (rw (z, add-zero) (none l.buf c.args.at (omega arith)))
