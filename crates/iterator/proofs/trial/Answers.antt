-- `iterator::trial` meets its contract: the tests, one after the other, and then the trial. Assumes nothing.
use mathlib.Core.Path.{◌≡◌, sym, ◌∙◌}
use mathlib.Core.Bool.{true}
use lib.IntN.{ℤ}
use lib.Ieee.{Float}
use borrow.Author.Tests.{not-true, not-false}
use Rattle.facts.proofs.Truth.{and_0}
use Rattle.iterator.specs.declared.Judgement.{Judgement}
use Rattle.iterator.specs.Rule.{Grid}
use Rattle.iterator.specs.Single.{in_grid, sound_of, next_trial_of, single_trial_of}
use Rattle.iterator.proofs.Grids.{ends-back, in_grid_lem, grid-back}
use mathlib.Core.Path.{ap}
use mathlib.Core.Bool.{not}
use Rattle.iterator.proofs.trial.Goals as goal

-- sound ends lie on the grid
on-grid : (asked : Float) (lo hi : ℤ) (below above : Judgement) → sound_of asked lo hi below above ≡ true → Grid lo hi
unfolding sound_of
on-grid asked lo hi below above e = in_grid_lem lo hi (and_0 (in_grid lo hi) _ e)

pub returns-then-not-all_finite : goal.returns-then-not-all_finite
unfolding single_trial_of
returns-then-not-all_finite c = simp (sym c.all_finite.ensures ∙ not-true _ (ap not c.if-not-all_finite.true))

pub returns-then-not-sound : goal.returns-then-not-sound
unfolding single_trial_of
returns-then-not-sound c =
    simp (
      sym c.all_finite.ensures ∙ not-false _ (ap not c.if-not-all_finite.false),
      sym (let sounded : let a = c.args in c.sound.result ≡ sound_of a.asked a.lo a.hi a.below a.above = c.sound.ensures ∙ ends-back (λ (x y : ℤ). sound_of c.args.asked x y c.args.below c.args.above) c.ranges.lo c.ranges.hi in sounded) ∙ not-true _ (ap not c.if-not-sound.true),
    )

pub next_trial-requires : goal.next_trial-requires
next_trial-requires c =
    let a = c.args in
    grid-back (on-grid a.asked a.lo a.hi a.below a.above (sym (let sounded : let a = c.args in c.sound.result ≡ sound_of a.asked a.lo a.hi a.below a.above = c.sound.ensures ∙ ends-back (λ (x y : ℤ). sound_of c.args.asked x y c.args.below c.args.above) c.ranges.lo c.ranges.hi in sounded) ∙ not-false _ (ap not c.if-not-sound.false)))

pub returns : goal.returns
unfolding single_trial_of
returns c =
    let a = c.args in
    simp (
      sym c.all_finite.ensures ∙ not-false _ (ap not c.if-not-all_finite.false),
      sym (let sounded : let a = c.args in c.sound.result ≡ sound_of a.asked a.lo a.hi a.below a.above = c.sound.ensures ∙ ends-back (λ (x y : ℤ). sound_of c.args.asked x y c.args.below c.args.above) c.ranges.lo c.ranges.hi in sounded) ∙ not-false _ (ap not c.if-not-sound.false),
    )
    (c.next_trial.ensures ∙ ends-back (λ (x y : ℤ). next_trial_of a.asked x y a.below a.above a.k) c.ranges.lo c.ranges.hi)
