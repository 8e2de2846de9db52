-- `solve::lambert_ended` meets its contract: the tests ahead are those of the transfer's own numbers, and none stands behind. Assumes nothing.
use Rattle.std.specs.Prelude.{Result, Ok}
use mathlib.Core.Path.{ap, ◌∙◌}
use Rattle.table.specs.Tests.{Entry, first_failing}
use Rattle.lambert.specs.declared.Transfer.{Transfer}
use Rattle.problem.specs.declared.Problem.TheVariants.{Lambert}
use Rattle.trials.specs.Ended.{begun_of, ended_from}
use Rattle.solve.specs.Ahead.{lambert_ahead}
use Rattle.solve.proofs.lambert_ended.Goals as goal

pub returns : goal.returns
returns c =
    let a = c.args in
    c.ended_from.ensures
    ∙ ap (λ (p : Result Unit Entry). ended_from p (begun_of (Lambert a.d) a.t a.g) (Ok tt) (Lambert a.d) a.t a.limit) c.lambert_ahead-ahead.ensures
    ∙ ap (λ (d : Transfer). ended_from (first_failing (lambert_ahead a.mu a.first a.second a.way a.t d a.g)) (begun_of (Lambert d) a.t a.g) (Ok tt) (Lambert d) a.t a.limit) c.requires
