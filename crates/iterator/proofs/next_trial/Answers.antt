-- `iterator::next_trial` meets its contract, for ends on a grid. Assumes nothing.
use Prim.Native.Nat.{ℕ, ◌<◌, ◌≤◌}
use mathlib.Core.Path.{◌≡◌, ap, ◌∙◌, subst}
use lib.IntN.{ℤ}
use mir.Syntax.{w64}
use mir.Val.{to_z, of_z}
use mir.Facts.{to_z-of_z}
use borrow.Author.Tests.{lt-ltb, le-ltb}
use Rattle.iterator.specs.Rule.{Grid, width_of, point_of}
use Rattle.iterator.specs.Single.{next_trial_of}
use Rattle.iterator.specs.declared.Tried.TheVariants.{Point}
use Rattle.iterator.proofs.Grids.{ends-back, lo-fits, hi-fits, point-fits}
use Rattle.iterator.proofs.next_trial.Goals as goal

width_back : {lo hi : ℤ} → Grid lo hi → width_of (to_z w64 (of_z w64 lo)) (to_z w64 (of_z w64 hi)) ≡ width_of lo hi
width_back g = ends-back width_of (lo-fits g) (hi-fits g)

pub returns-then-width-gt1 : goal.returns-then-width-gt1
unfolding next_trial_of
returns-then-width-gt1 c =
    let a = c.args in
    let g = c.requires in
    let p = subst (λ (w : ℕ). 1 < w) (let wide : let a = c.args in c.width.result ≡ width_of a.lo a.hi = c.width.ensures ∙ width_back c.requires in wide) c.if-width-gt1.true in
    simp (lt-ltb 1 (width_of a.lo a.hi) p)
    (ap (λ (z : ℤ). Point (to_z w64 (of_z w64 z)))
    (c.place.ensures ∙ ends-back (λ (x y : ℤ). point_of a.asked x y a.below a.above a.k) (lo-fits g) (hi-fits g))
    ∙ ap Point (to_z-of_z (point-fits a.asked a.below a.above a.k g p)))

pub returns : goal.returns
unfolding next_trial_of
returns c =
    let a = c.args in
    simp (le-ltb 1 (width_of a.lo a.hi) (subst (λ (w : ℕ). w ≤ 1) (let wide : let a = c.args in c.width.result ≡ width_of a.lo a.hi = c.width.ensures ∙ width_back c.requires in wide) c.if-width-gt1.false))
