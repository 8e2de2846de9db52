-- `solve::kepler_ended` meets its contract: the tests ahead and the fall are those of the advance's own numbers. Assumes nothing.
use Rattle.std.specs.Prelude.{Result}
use Prim.Native.Nat.{ℕ}
use mathlib.Core.Path.{ap, ◌∙◌}
use lib.Ieee.{Float}
use Rattle.vector.specs.declared.State.{State}
use Rattle.table.specs.Tests.{Entry, first_failing}
use Rattle.table.proofs.Laws.{first_failing_lem}
use Rattle.iterator.specs.declared.Beginning.{Beginning}
use Rattle.kepler.specs.declared.Motion.{Motion}
use Rattle.kepler.specs.Kepler.{fall_row}
use Rattle.problem.specs.declared.Problem.TheVariants.{Kepler}
use Rattle.trials.specs.Ended.{Ended, begun_of, ended_from}
use Rattle.solve.specs.Ahead.{kepler_ahead}
use Rattle.solve.specs.Ends.{motion_for}
use Rattle.solve.proofs.kepler_ended.Goals as goal

-- with these numbers, these tests and this rest
abbrev by : Motion → Float → Beginning → ℕ → Result Unit Entry → Result Unit Entry → Ended
by m rest g limit ahead fall = ended_from ahead (begun_of (Kepler m) rest g) fall (Kepler m) rest limit

abbrev for : Float → State → Float → Beginning → ℕ → Motion → Float → Ended
for mu s t g limit m rest = by m rest g limit (first_failing (kepler_ahead mu s t m g)) (first_failing (fall_row mu s m.orbit.r1))

pub returns : goal.returns
returns c =
    let a = c.args in
    c.ended_from.ensures
    ∙ ap (λ (p : Result Unit Entry). by a.m a.rest a.g a.limit p c.fall_row-fall.result) c.kepler_ahead-ahead.ensures
    ∙ ap (by a.m a.rest a.g a.limit (first_failing (kepler_ahead a.mu a.s a.t a.m a.g))) (c.fall_row-fall.ensures ∙ first_failing_lem (fall_row a.mu a.s a.m.orbit.r1))
    ∙ ap (λ (m : Motion). for a.mu a.s a.t a.g a.limit m a.rest) c.requires.its_motion
    ∙ ap (for a.mu a.s a.t a.g a.limit (motion_for a.mu a.s a.t)) c.requires.its_rest
