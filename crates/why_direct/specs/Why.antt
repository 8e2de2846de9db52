-- Why a transfer time, or the apsides, are refused, or that they are not (T-07), from their own tests. Assumes nothing: these are definitions.
use Rattle.std.specs.Prelude.{Float, Result, Ok, Err}
use Rattle.vector.specs.declared.State.{State}
use Rattle.table.specs.Tests.{Entry, first_failing}
use Rattle.reach.specs.declared.Reached.{Reached}
use Rattle.reach.specs.declared.Reached.TheVariants as H
use Rattle.reach.specs.Reach.{reach_of}
use Rattle.theta.specs.declared.Sweep.{Sweep}
use Rattle.theta.specs.Theta.{sweep_of, theta_tests, arc_of}
use Rattle.apsides.specs.Apsides.{shape_of, apsides_tests}
use Rattle.reason.specs.Reasons.{Reason}
use Rattle.reason.specs.declared.Reason.TheVariants as R

-- for a transfer time the range test alone
unfoldable pub reached_reason : Reached → Reason
reached_reason (H.Time t) = R.Solved
reached_reason (H.Under e) = R.Range e
reached_reason (H.Over e) = R.Range e

unfoldable pub time_reason : Result Unit Entry → Reached → Reason
time_reason (Err e) r = R.Test e
time_reason (Ok tt) r = reached_reason r

abbrev pub why_time_from : Float → State → Float → Float → Sweep → Reason
why_time_from mu s sin cos d = time_reason (first_failing (theta_tests mu s sin cos d)) (reach_of (arc_of mu d))

abbrev pub why_time : Float → State → Float → Float → Reason
why_time mu s sin cos = why_time_from mu s sin cos (sweep_of mu s sin cos)

unfoldable pub test_reason : Result Unit Entry → Reason
test_reason (Err e) = R.Test e
test_reason (Ok tt) = R.Solved

abbrev pub why_apsides : Float → State → Reason
why_apsides mu s = test_reason (first_failing (apsides_tests mu s (shape_of mu s)))
