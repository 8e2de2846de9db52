-- Why a solve refuses, or that it does not (T-07), from the solve's own tests and trials. Assumes nothing: these are definitions.
use Rattle.std.specs.Prelude.{ℕ, cond, Float, Err, Ok, Result}
use Rattle.vector.specs.declared.Vector.{Vector}
use Rattle.vector.specs.declared.State.{State}
use Rattle.table.specs.Tests.{Entry, first_failing}
use Rattle.iterator.specs.Run.{more}
use Rattle.iterator.specs.declared.Judgement.{Judgement}
use Rattle.iterator.specs.declared.Judgement.TheVariants.{Low, High, Under, Over}
use Rattle.iterator.specs.declared.Bracket.{Bracket}
use Rattle.iterator.specs.declared.Beginning.{Beginning}
use Rattle.kepler.specs.declared.Motion.{Motion}
use Rattle.kepler.specs.Kepler.{turned_of, arrival_of}
use Rattle.lambert.specs.declared.Way.{Way}
use Rattle.lambert.specs.declared.Transfer.{Transfer}
use Rattle.lambert.specs.Lambert.{transfer_of, velocity_at, result_row}
use Rattle.problem.specs.Stops.{stop_of}
use Rattle.problem.specs.declared.Problem.{Problem}
use Rattle.problem.specs.declared.Problem.TheVariants.{Kepler, Lambert}
use Rattle.solve.specs.Ends.{motion_for, kepler_ended, lambert_ended}
use Rattle.trials.specs.Ended.{Ended}
use Rattle.trials.specs.declared.Ended.TheVariants as E
use Rattle.reason.specs.declared.Neighbours.{Neighbours}
use Rattle.reason.specs.Reasons.{Reason}
use Rattle.reason.specs.declared.Reason.TheVariants as R

-- 8 where the lower neighbour has no time, and what stopped it; Kepler's always has one, and the solve's number there is 7
abbrev pub short_by : Problem → Bracket → Reason
short_by (Kepler m) b = R.TooLong b (stop_of (Kepler m) b.lo)
short_by (Lambert d) b = R.TooShort b (stop_of (Lambert d) b.lo)

-- 7 where the upper one has none
abbrev pub long_by : Problem → Bracket → Reason
long_by problem b = R.TooLong b (stop_of problem b.hi)

abbrev pub neighbours_of : Bracket → Float → Float → Neighbours
neighbours_of b below above = record { lo = b.lo; below = below; hi = b.hi; above = above; count = b.count }

-- by the judgements of the two ends
unfoldable pub told_by : Problem → Bracket → Judgement → Judgement → Result Neighbours Reason
told_by problem b (Low t) (High u) = Ok (neighbours_of b t u)
told_by problem b (Low t) (Low u) = Err (long_by problem b)
told_by problem b (Low t) Under = Err (long_by problem b)
told_by problem b (Low t) Over = Err (long_by problem b)
told_by problem b (High t) above = Err (short_by problem b)
told_by problem b Under above = Err (short_by problem b)
told_by problem b Over above = Err (short_by problem b)

-- 29 while hi − lo > 1
unfoldable pub told_of : Problem → Bracket → Result Neighbours Reason
told_of problem b = cond (more b) (Err (R.NotFinished b)) (told_by problem b b.below b.above)

-- 9, of the state at the lower neighbour
unfoldable pub arrival_reason : Result State Entry → Neighbours → Reason
arrival_reason (Ok s) n = R.Between n
arrival_reason (Err e) n = R.Test e

unfoldable pub told_advance : Motion → State → Result Neighbours Reason → Reason
told_advance m from (Ok n) = arrival_reason (arrival_of m from n.lo) n
told_advance m from (Err r) = r

-- 9, of the velocity there
unfoldable pub velocity_reason : Result Unit Entry → Neighbours → Reason
velocity_reason (Ok tt) n = R.Between n
velocity_reason (Err e) n = R.Test e

unfoldable pub told_transfer : Transfer → Result Neighbours Reason → Reason
told_transfer d (Ok n) = velocity_reason (first_failing (result_row (velocity_at d n.lo))) n
told_transfer d (Err r) = r

-- ---- the two solves

unfoldable pub advance_reason : Ended → Motion → State → Reason
advance_reason (E.Refused e) m from = R.Test e
advance_reason (E.Wrong a) m from = R.Amiss a
advance_reason (E.At b) m from = told_advance m from (told_of (Kepler m) b)

abbrev pub why_advance : Float → State → Float → ℕ → Beginning → Reason
why_advance mu s t limit g = advance_reason (kepler_ended mu s t limit g) (motion_for mu s t) (turned_of t s)

unfoldable pub transfer_reason : Ended → Transfer → Reason
transfer_reason (E.Refused e) d = R.Test e
transfer_reason (E.Wrong a) d = R.Amiss a
transfer_reason (E.At b) d = told_transfer d (told_of (Lambert d) b)

abbrev pub why_transfer : Float → Vector → Vector → Way → Float → ℕ → Beginning → Reason
why_transfer mu first second way t limit g = transfer_reason (lambert_ended mu first second way t limit g) (transfer_of mu first second way)
