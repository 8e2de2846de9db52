-- `why_direct::time_theta`: a test that fails is told. Assumes nothing.
use Rattle.std.proofs.Common.{◌≡◌, sym, ap, ◌∙◌}
use Rattle.theta.specs.declared.Sweep.{Sweep}
use Rattle.theta.specs.Theta.{sweep_of, theta_tests}
use Rattle.table.specs.Tests.{first_failing}
use Rattle.why_direct.specs.Why.{time_reason}
use Rattle.why_direct.proofs.time_theta.Goals as goal

pub returns-in-Err : goal.returns-in-Err
unfolding time_reason
returns-in-Err c =
    let a = c.args in
    let tested : c.tests.result ≡ first_failing (theta_tests a.mu a.s a.sin a.cos (sweep_of a.mu a.s a.sin a.cos)) =
    c.tests.ensures ∙ ap (λ (d : Sweep). first_failing (theta_tests a.mu a.s a.sin a.cos d)) c.sweep_of-d.ensures in
    simp (sym tested ∙ c.in-Err.is)
