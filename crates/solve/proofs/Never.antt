-- Kepler's lower neighbour always has a time: the lower end starts low, and Kepler's judge never says under. Assumes nothing.
use Rattle.std.specs.Prelude.{Err, Ok, Result}
use Rattle.table.specs.Tests.{Entry}
use Rattle.conic.specs.declared.Point.{Point}
use mathlib.Core.Path.{◌≡◌, refl, sym, subst}
use mathlib.Core.Bool.{Bool, true, false, cond, true≢false}
use lib.IntN.{ℤ}
use lib.Signed.{lt_z}
use lib.Ieee.{Float}
use Rattle.real.specs.F64.{◌≤ᶠ◌}
use Rattle.iterator.specs.declared.Judgement.{Judgement}
use Rattle.iterator.specs.declared.Judgement.TheVariants.{Low, High, Under, Over}
use Rattle.iterator.specs.Judged.{in_time, judged_of}
use Rattle.iterator.specs.Single.{is_below}
use Rattle.kepler.specs.declared.Motion.{Motion}
use Rattle.kepler.specs.Kepler.{trial_at, judged_trial, kepler_judge}
use Rattle.problem.specs.Problems.{start_of, held_of, last_of}
use Rattle.problem.specs.declared.Problem.TheVariants.{Kepler}
use Rattle.solve.proofs.Asked.{Asked}
use Rattle.solve.proofs.Last.{last-sound, held_below}

abbrev NotUnder : Judgement → Type 0
NotUnder (Low t) = Prim.Unit
NotUnder (High t) = Prim.Unit
NotUnder Under = ⊥
NotUnder Over = Prim.Unit

trial-not-under : (asked : Float) (r : Result Point Entry) → NotUnder (judged_trial asked r)
unfolding judged_trial judged_of
trial-not-under asked (Err e) = tt
trial-not-under asked (Ok p) = go (in_time p.t) (p.t ≤ᶠ asked)
  where
    go : (a b : Bool) → NotUnder (cond a (cond b (Low p.t) (High p.t)) Over)
    go true true = tt
    go true false = tt
    go false b = tt

held-not-under : (m : Motion) (asked : Float) (n : ℤ) → NotUnder (held_of (Kepler m) asked n)
unfolding held_of
held-not-under m asked n = go (lt_z (start_of (Kepler m)).lo n) (lt_z n (start_of (Kepler m)).hi)
  where
    go : (a b : Bool) → NotUnder (cond a (cond b (kepler_judge m asked n) (start_of (Kepler m)).above) (start_of (Kepler m)).below)
    go true true = trial-not-under asked (trial_at m n)
    go true false = tt
    go false b = tt

pub never-short : (m : Motion) (asked : Float) → Asked asked → (t : Float) × ((last_of (Kepler m) asked).below ≡ Low t)
never-short m asked a =
    go (last_of (Kepler m) asked).below (last-sound (Kepler m) asked a).lower
    (subst NotUnder (sym (held_below (Kepler m) asked a)) (held-not-under m asked (last_of (Kepler m) asked).lo))
  where
    go : (j : Judgement) → is_below j ≡ true → NotUnder j → (t : Float) × (j ≡ Low t)
    go (Low t) h k = (t, refl)
    go (High t) h k = absurd (true≢false (sym h))
    go Under h k = absurd k
    go Over h k = absurd (true≢false (sym h))
