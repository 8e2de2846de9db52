-- `theta::tests`: the chain of tests gives the first that fails. Assumes nothing.
use Rattle.std.proofs.Common.{◌≡◌, ◌∙◌, arith, Ok}
use Rattle.table.specs.Tests.{◌▷◌}
use Rattle.table.proofs.Laws.{first_failing_lem, told_fails, told_passes}
use Rattle.theta.specs.Theta.{theta_tests}
use Rattle.theta.proofs.tests.Goals as goal

pub returns-in_err-input_rows : goal.returns-in_err-input_rows
returns-in_err-input_rows c =
    let a = c.args in
    let h : c.from_residual.result ≡ Ok tt ▷ theta_tests a.mu a.s a.sin a.cos a.d = grind (arith, told_fails, told_passes) in
    h ∙ first_failing_lem (theta_tests a.mu a.s a.sin a.cos a.d)

pub returns : goal.returns
returns c =
    let a = c.args in
    let h : c.straight_row.result ≡ Ok tt ▷ theta_tests a.mu a.s a.sin a.cos a.d = grind (arith, told_fails, told_passes) in
    h ∙ first_failing_lem (theta_tests a.mu a.s a.sin a.cos a.d)
