-- `iterator::more_left` meets its contract: ends that pass the test lie on a grid. Assumes nothing.
use mathlib.Core.Path.{◌≡◌, sym, ap, ◌∙◌}
use borrow.Author.Tests.{not-true, not-false}
use lib.Dec.{ltb}
use Rattle.iterator.specs.Rule.{Grid, width_of}
use Rattle.iterator.specs.Single.{in_grid, more_left}
use Rattle.iterator.proofs.Grids.{ends-back, in_grid_lem, grid-back, lo-fits, hi-fits}
use mathlib.Core.Bool.{not}
use Rattle.iterator.proofs.more_left.Goals as goal

grid : (c : goal.Else-not-in_grid) → let a = c.args in Grid a.lo a.hi
grid c = let a = c.args in
    in_grid_lem a.lo a.hi (sym (let tested : let a = c.args in c.in_grid.result ≡ in_grid a.lo a.hi = c.in_grid.ensures ∙ ends-back in_grid c.ranges.lo c.ranges.hi in tested) ∙ not-false _ (ap not c.if-not-in_grid.false))

pub returns-then-not-in_grid : goal.returns-then-not-in_grid
unfolding more_left
returns-then-not-in_grid c = simp (sym (let tested : let a = c.args in c.in_grid.result ≡ in_grid a.lo a.hi = c.in_grid.ensures ∙ ends-back in_grid c.ranges.lo c.ranges.hi in tested) ∙ not-true _ (ap not c.if-not-in_grid.true))

pub width-requires : goal.width-requires
width-requires c = grid-back (grid c)

pub returns : goal.returns
unfolding more_left
returns c =
    let g = grid c.before in
    simp (sym (let tested : let a = c.args in c.in_grid.result ≡ in_grid a.lo a.hi = c.in_grid.ensures ∙ ends-back in_grid c.ranges.lo c.ranges.hi in tested) ∙ not-false _ (ap not c.if-not-in_grid.false))
    (ap (ltb 1) (c.width.ensures ∙ ends-back width_of (lo-fits g) (hi-fits g)))
