-- The computed time of a grid point, or none: it does not know the time asked for (01, 'Judging a trial'). Assumes nothing: these are definitions.
use Rattle.table.specs.Tests.{Entry}
use Rattle.conic.specs.declared.Point.{Point}
use Rattle.std.specs.Prelude.{cond, ℤ, Float, Err, Ok, Result}
use Rattle.std.specs.Int.Signed.{lt_z}
use Rattle.conic.specs.Conic.{grid_of}
use Rattle.reach.specs.declared.Reached.{Reached}
use Rattle.reach.specs.declared.Reached.TheVariants as R
use Rattle.iterator.specs.declared.Judgement.{Judgement}
use Rattle.iterator.specs.declared.Judgement.TheVariants.{Low, High, Under, Over}
use Rattle.iterator.specs.Judged.{in_time}
use Rattle.kepler.specs.Kepler.{trial_at}
use Rattle.lambert.specs.Lambert.{reach_at}
use Rattle.problem.specs.Problems.{start_of}
use Rattle.problem.specs.declared.Problem.{Problem}
use Rattle.problem.specs.declared.Problem.TheVariants.{Kepler, Lambert}

pub data Computed : Type 0 where
  time : Float → Computed
  none : Computed

-- the time that a judgement carries
abbrev pub carried_by : Judgement → Computed
carried_by (Low t) = time t
carried_by (High t) = time t
carried_by Under = none
carried_by Over = none

-- a time counts within −2^28..2^28
unfoldable pub timed_trial : Result Point Entry → Computed
timed_trial (Ok p) = cond (in_time p.t) (time p.t) none
timed_trial (Err e) = none

unfoldable pub timed_reach : Reached → Computed
timed_reach (R.Time t) = cond (in_time t) (time t) none
timed_reach (R.Under e) = none
timed_reach (R.Over e) = none

abbrev pub time_inside : Problem → ℤ → Computed
time_inside (Kepler m) n = timed_trial (trial_at m n)
time_inside (Lambert d) n = timed_reach (reach_at d (grid_of n))

-- the grid's own ends are not evaluated: they carry what they start with
unfoldable pub computed_at : Problem → ℤ → Computed
computed_at problem n =
    cond (lt_z (start_of problem).lo n)
    (cond (lt_z n (start_of problem).hi) (time_inside problem n) (carried_by (start_of problem).above))
    (carried_by (start_of problem).below)
