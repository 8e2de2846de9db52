-- `kepler::result_row`: the chain of tests gives the first that fails. Assumes nothing.
use Rattle.std.proofs.Common.{◌≡◌, ◌∙◌, arith, Ok}
use Rattle.table.specs.Tests.{◌▷◌}
use Rattle.table.proofs.Laws.{first_failing_lem, told_fails, told_passes}
use Rattle.kepler.specs.Kepler.{result_row}
use Rattle.kepler.proofs.result_row.Goals as goal

pub returns-in_err-position_components : goal.returns-in_err-position_components
returns-in_err-position_components c =
    let a = c.args in
    let h : c.from_residual.result ≡ Ok tt ▷ result_row a.r a.v a.length = grind (arith, told_fails, told_passes) in
    h ∙ first_failing_lem (result_row a.r a.v a.length)

pub returns-in_err-velocity_components : goal.returns-in_err-velocity_components
returns-in_err-velocity_components c =
    let a = c.args in
    let h : c.from_residual-in_err-velocity_components.result ≡ Ok tt ▷ result_row a.r a.v a.length = grind (arith, told_fails, told_passes) in
    h ∙ first_failing_lem (result_row a.r a.v a.length)

pub returns : goal.returns
returns c =
    let a = c.args in
    let h : c.test.result ≡ Ok tt ▷ result_row a.r a.v a.length = grind (arith, told_fails, told_passes) in
    h ∙ first_failing_lem (result_row a.r a.v a.length)
