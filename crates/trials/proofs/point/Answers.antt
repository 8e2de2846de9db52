-- `trials::point` meets its contract: lo and the stride are added on the grid, where the sum fits. Assumes nothing.
use Prim.Native.Nat.{ℕ, ◌≤◌, ◌<◌, ◌^◌, ◌+◌}
use native.Mathlib.Omega.{arith}
use mathlib.Core.Path.{◌≡◌, sym, ap, ◌∙◌, subst}
use lib.IntN.{pos, ◌+ℤ◌}
use lib.Signed.{mag}
use mir.Syntax.{w64}
use mir.Val.{SFits, to_z, of_z}
use mir.Facts.{to_z-of_z}
use Rattle.iterator.specs.declared.Judgement.{Judgement}
use Rattle.iterator.specs.Rule.{width_of, stride_of}
use Rattle.iterator.proofs.Strides.{stride-in}
use Rattle.iterator.proofs.Grids.{add_back, lo-fits, small, sum_fits}
use Rattle.trials.specs.Span.{below_of, above_of}
use Rattle.trials.proofs.point.Goals as goal

is : (c : goal.After-stride-d) →
    let a = c.args in
    c.stride-d.result ≡ stride_of a.asked (width_of a.s.lo a.s.hi) (below_of a.s) (above_of a.s) (a.s.count + 1)
is c =
    let a = c.args in
    let above = c.above_of in
    let below = c.below_of in
    c.stride-d.ensures
    ∙ ap (λ (j : Judgement). stride_of a.asked a.w j above.result (a.s.count + 1)) below.ensures
    ∙ ap (λ (j : Judgement). stride_of a.asked a.w (below_of a.s) j (a.s.count + 1)) above.ensures
    ∙ ap (λ (w : ℕ). stride_of a.asked w (below_of a.s) (above_of a.s) (a.s.count + 1)) c.requires.its_width

near : (c : goal.After-stride-d) → mag c.args.s.lo + c.stride-d.result ≤ 2 ^ 40
near c =
    let a = c.args in
    let p = c.requires in
    let i = stride-in a.asked (width_of a.s.lo a.s.hi) (below_of a.s) (above_of a.s) (a.s.count + 1) (subst (λ (w : ℕ). 1 < w) p.its_width p.not_neighbours) in
    under (mag a.s.lo) c.stride-d.result _ _ p.on_grid.room (is c) i.1
  where
    under : (m d s w : ℕ) → m + w ≤ 2 ^ 39 → d ≡ s → s < w → m + d ≤ 2 ^ 40
    under m d s w h e l = omega arith

fits : (c : goal.After-stride-d) → SFits w64 (pos c.stride-d.result)
fits c = small (under _ _ (near c))
  where
    under : (a w : ℕ) → a + w ≤ 2 ^ 40 → w ≤ 2 ^ 40
    under a w h = omega arith

pub overflow_cast-result : goal.overflow_cast-result
overflow_cast-result c = fits c

pub overflow_add-result : goal.overflow_add-result
overflow_add-result c =
    let a = c.args in
    subst (SFits w64) (sym (add_back (lo-fits c.requires.on_grid) (fits c.before.before))) (sum_fits a.s.lo c.stride-d.result (near c.before.before))

pub returns : goal.returns
returns c =
    let a = c.args in
    ap (λ z. to_z w64 (of_z w64 z)) (add_back (lo-fits c.requires.on_grid) (fits c.before.before)) ∙ to_z-of_z (sum_fits a.s.lo c.stride-d.result (near c.before.before)) ∙ ap (λ (n : ℕ). a.s.lo +ℤ pos n) (is c.before.before)
