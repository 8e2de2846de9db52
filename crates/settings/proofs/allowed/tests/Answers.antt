-- The tests made one after another are the first of the list that fails. Assumes nothing.
use Rattle.std.proofs.Common.{◌≡◌, ◌∙◌, arith, Ok}
use Rattle.table.specs.Tests.{◌▷◌}
use Rattle.table.proofs.Laws.{first_failing_lem, told_fails, told_passes}
use Rattle.settings.specs.Allowed.{setting_tests}
use Rattle.settings.proofs.allowed.tests.Goals as goal

pub returns-in_err-mu_row : goal.returns-in_err-mu_row
returns-in_err-mu_row c =
    let x = c.args.x in
    let h : c.from_residual.result ≡ Ok tt ▷ setting_tests x = grind (arith, told_fails, told_passes) in
    h ∙ first_failing_lem (setting_tests x)

pub returns : goal.returns
returns c =
    let x = c.args.x in
    let h : c.radius_row.result ≡ Ok tt ▷ setting_tests x = grind (arith, told_fails, told_passes) in
    h ∙ first_failing_lem (setting_tests x)
