-- `apsides::periapo` meets its contract. Assumes nothing.
use Rattle.std.specs.Prelude.{Result}
use Rattle.apsides.specs.Apsides.{apsides_tests}
use Rattle.apsides.specs.declared.Shape.{Shape}
use Rattle.table.specs.Tests.{Entry, first_failing}
use mathlib.Core.Path.{sym, ap, ◌∙◌}
use Rattle.apsides.specs.Apsides.{answered}
use Rattle.apsides.proofs.periapo.Goals as goal

pub returns-in-Ok : goal.returns-in-Ok
unfolding answered
returns-in-Ok c =
    let a = c.args in
    let d = c.shape_of-d.result in
    c.distances.ensures
    ∙ ap (λ (t : Result Unit Entry). answered t d) (sym c.in-Ok.is ∙ c.tests.ensures)
    ∙ ap (λ (z : Shape). answered (first_failing (apsides_tests a.mu a.s z)) z) c.shape_of-d.ensures

pub returns-in-Err : goal.returns-in-Err
unfolding answered
returns-in-Err c =
    let a = c.args in
    let d = c.shape_of-d.result in
    ap (λ (t : Result Unit Entry). answered t d) (sym c.in-Err.is ∙ c.tests.ensures)
    ∙ ap (λ (z : Shape). answered (first_failing (apsides_tests a.mu a.s z)) z) c.shape_of-d.ensures
