-- `why_direct::periapo`: a test that fails is told. Assumes nothing.
use Rattle.std.proofs.Common.{◌≡◌, sym, ap, ◌∙◌}
use Rattle.apsides.specs.declared.Shape.{Shape}
use Rattle.apsides.specs.Apsides.{shape_of, apsides_tests}
use Rattle.table.specs.Tests.{first_failing}
use Rattle.why_direct.specs.Why.{test_reason}
use Rattle.why_direct.proofs.periapo.Goals as goal

pub returns-in-Err : goal.returns-in-Err
unfolding test_reason
returns-in-Err c =
    let a = c.args in
    let tested : c.tests.result ≡ first_failing (apsides_tests a.mu a.s (shape_of a.mu a.s)) =
    c.tests.ensures ∙ ap (λ (d : Shape). first_failing (apsides_tests a.mu a.s d)) c.shape_of.ensures in
    simp (sym tested ∙ c.in-Err.is)
