-- Where a solve's trials end: its tests, then the trials under a limit on the count. Assumes nothing: these are definitions.
use Rattle.std.specs.Prelude.{ℕ, Float, Ok}
use Rattle.real.specs.F64.{size_of}
use Rattle.vector.specs.declared.Vector.{Vector}
use Rattle.vector.specs.declared.State.{State}
use Rattle.table.specs.Tests.{first_failing}
use Rattle.iterator.specs.declared.Beginning.{Beginning}
use Rattle.kepler.specs.declared.Motion.{Motion}
use Rattle.kepler.specs.declared.Turns.{Turns}
use Rattle.kepler.specs.Kepler.{turned_of, motion_of, fall_row, turns_of}
use Rattle.lambert.specs.declared.Way.{Way}
use Rattle.lambert.specs.Lambert.{transfer_of}
use Rattle.problem.specs.declared.Problem.TheVariants.{Kepler, Lambert}
use Rattle.trials.specs.Ended.{Ended, begun_of, ended_from}
use Rattle.solve.specs.Ahead.{kepler_ahead, lambert_ahead}

-- a negative time is solved as its size with the velocity negated
abbrev pub motion_for : Float → State → Float → Motion
motion_for mu s t = motion_of mu (turned_of t s)

abbrev pub turns_for : Float → State → Float → Turns
turns_for mu s t = turns_of (motion_for mu s t) (size_of t)

-- the trials are for the rest of the time
abbrev pub kepler_ended : Float → State → Float → ℕ → Beginning → Ended
kepler_ended mu s t limit g =
    ended_from
    (first_failing (kepler_ahead mu s t (motion_for mu s t) g))
    (begun_of (Kepler (motion_for mu s t)) (turns_for mu s t).rest g)
    (first_failing (fall_row mu s (motion_for mu s t).orbit.r1))
    (Kepler (motion_for mu s t)) (turns_for mu s t).rest limit

abbrev pub lambert_ended : Float → Vector → Vector → Way → Float → ℕ → Beginning → Ended
lambert_ended mu first second way t limit g =
    ended_from
    (first_failing (lambert_ahead mu first second way t (transfer_of mu first second way) g))
    (begun_of (Lambert (transfer_of mu first second way)) t g)
    (Ok tt)
    (Lambert (transfer_of mu first second way)) t limit
