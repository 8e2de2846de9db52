-- The loop has found the first i numbers finite, so that all are where those behind them are. Assumes nothing.
use Prim.Native.Nat.{◌+◌, ◌-◌}
use native.Mathlib.Omega.{arith}
use mathlib.Core.Path.{◌≡◌, refl, sym, ap, ◌∙◌}
use mathlib.Core.Bool.{Bool, ◌&&◌}
use borrow.Author.Tests.{not-true, not-false}
use Rattle.real.specs.F64.{finite}
use Rattle.session.specs.Layout.{numbers_from, all_finite}
use Rattle.session.proofs.Numbers.{finite-first}
use mathlib.Core.Bool.{not}
use Rattle.session.proofs.payload.are_finite.Goals as goal

pub returns-then-not-is_finite : goal.returns-then-not-is_finite
returns-then-not-is_finite c =
    let i = c.loop-i.i in
    let s = c.args.s.now in
    sym
    (c.loop-i.invariant.2
    ∙ finite-first i c.args.n s (omega arith)
    ∙ ap (λ (b : Bool). b && all_finite (numbers_from (i + 1) (c.args.n - (i + 1)) s))
    (sym (ap finite c.number.ensures) ∙ sym c.is_finite.ensures ∙ not-true _ (ap not c.if-not-is_finite.true)))

pub loop-i-preserved : goal.loop-i-preserved
loop-i-preserved c =
    let i = c.loop-i.i in
    let s = c.args.s.now in (
      omega arith,
      c.loop-i.invariant.1,
      c.loop-i.invariant.2
          ∙ finite-first i c.args.n s (omega arith)
          ∙ ap (λ (b : Bool). b && all_finite (numbers_from (i + 1) (c.args.n - (i + 1)) s))
          (sym (ap finite c.number.ensures) ∙ sym c.is_finite.ensures ∙ not-false _ (ap not c.if-not-is_finite.false)),
    )

pub returns : goal.returns
unfolding all_finite numbers_from
returns c =
    let z : c.args.n - c.loop-i.i ≡ 0 = omega arith in
    sym (c.loop-i.invariant.2 ∙ rw z refl)
