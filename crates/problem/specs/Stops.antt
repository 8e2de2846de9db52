-- Why a grid point has no time (T-07). Assumes nothing: these are definitions.
use Rattle.table.specs.Tests.{Entry}
use Rattle.std.specs.Prelude.{cond, ℤ, Result, Ok, Err}
use Rattle.std.specs.Int.Signed.{lt_z}
use Rattle.reason.specs.Reasons.{Stop}
use Rattle.reason.specs.declared.Stop.TheVariants as S
use Rattle.kepler.specs.Kepler.{kepler_stop}
use Rattle.lambert.specs.Lambert.{lambert_stop}
use Rattle.problem.specs.Problems.{start_of}
use Rattle.problem.specs.declared.Problem.{Problem}
use Rattle.problem.specs.declared.Problem.TheVariants.{Kepler, Lambert}

-- the range test that stops the trial of a point inside the grid
abbrev pub range_at : Problem → ℤ → Result Unit Entry
range_at (Kepler m) n = kepler_stop m n
range_at (Lambert d) n = lambert_stop d n

unfoldable pub stop_by : Result Unit Entry → Stop
stop_by (Err e) = S.Test e
stop_by (Ok tt) = S.EndOfGrid

-- the grid's own ends are not evaluated
unfoldable pub stop_of : Problem → ℤ → Stop
stop_of problem n =
    cond (lt_z (start_of problem).lo n)
    (cond (lt_z n (start_of problem).hi) (stop_by (range_at problem n)) S.EndOfGrid)
    S.EndOfGrid
