-- `iterator::place` meets its contract: lo and the stride are added on the grid, where the sum fits. Assumes nothing.
use Prim.Native.Nat.{ℕ, ◌≤◌, ◌<◌, ◌^◌, ◌+◌}
use native.Mathlib.Omega.{arith}
use mathlib.Core.Path.{◌≡◌, sym, ap, ◌∙◌, subst}
use lib.IntN.{pos, ◌+ℤ◌}
use lib.Signed.{mag}
use mir.Syntax.{w64}
use mir.Val.{SFits, to_z, of_z}
use mir.Facts.{to_z-of_z}
use Rattle.iterator.specs.Rule.{width_of, stride_of}
use Rattle.iterator.proofs.Strides.{stride-in}
use Rattle.iterator.proofs.Grids.{ends-back, add_back, small, sum_fits}
use Rattle.iterator.proofs.place.Goals as goal

is : (c : goal.After-stride-d) → let a = c.args in c.stride-d.result ≡ stride_of a.asked (width_of a.lo a.hi) a.below a.above a.k
is c =
    let a = c.args in
    c.stride-d.ensures ∙ ap (λ (w : ℕ). stride_of a.asked w a.below a.above a.k) (let wide : c.width.result ≡ width_of c.args.lo c.args.hi = c.width.ensures ∙ ends-back width_of c.ranges.lo c.ranges.hi in wide)

below : (c : goal.After-stride-d) → mag c.args.lo + c.stride-d.result ≤ 2 ^ 40
below c =
    let a = c.args in
    let p = c.requires in
    let i = stride-in a.asked (width_of a.lo a.hi) a.below a.above a.k p.not_neighbours in
    under (mag a.lo) c.stride-d.result _ _ p.on_grid.room (is c) i.1
  where
    under : (m d s w : ℕ) → m + w ≤ 2 ^ 39 → d ≡ s → s < w → m + d ≤ 2 ^ 40
    under m d s w h e l = omega arith

fits : (c : goal.After-stride-d) → SFits w64 (pos c.stride-d.result)
fits c = small (under _ _ (below c))
  where
    under : (a w : ℕ) → a + w ≤ 2 ^ 40 → w ≤ 2 ^ 40
    under a w h = omega arith

pub overflow_cast-result : goal.overflow_cast-result
overflow_cast-result c = fits c

pub overflow_add-result : goal.overflow_add-result
overflow_add-result c = subst (SFits w64) (sym (add_back c.ranges.lo (fits c))) (sum_fits c.args.lo c.stride-d.result (below c))

pub returns : goal.returns
returns c =
    let a = c.args in
    ap (λ z. to_z w64 (of_z w64 z)) (add_back c.ranges.lo (fits c)) ∙ to_z-of_z (sum_fits a.lo c.stride-d.result (below c)) ∙ ap (λ (d : ℕ). a.lo +ℤ pos d) (is c)
