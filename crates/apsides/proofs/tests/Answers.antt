-- `apsides::tests`: the chain of tests gives the first that fails. Assumes nothing.
use Rattle.std.proofs.Common.{◌≡◌, ◌∙◌, arith, Ok}
use Rattle.table.specs.Tests.{◌▷◌}
use Rattle.table.proofs.Laws.{first_failing_lem, told_fails, told_passes}
use Rattle.apsides.specs.Apsides.{apsides_tests}
use Rattle.apsides.proofs.tests.Goals as goal

pub returns : goal.returns
returns c =
    let a = c.args in
    let h : c.straight_row.result ≡ Ok tt ▷ apsides_tests a.mu a.s a.d = grind (arith, told_fails, told_passes) in
    h ∙ first_failing_lem (apsides_tests a.mu a.s a.d)
