-- `theta::time_theta` meets its contract. Assumes nothing.
use Rattle.table.specs.Tests.{Entry}
use Rattle.std.specs.Prelude.{Result}
use mathlib.Core.Path.{◌≡◌, sym, ap, ◌∙◌}
use Rattle.theta.specs.Theta.{transfer_time_by, arc_of, answered, theta_from}
use Rattle.reach.specs.Reach.{reach_of}
use Rattle.theta.proofs.time_theta.Goals as goal

pub returns-in-Ok : goal.returns-in-Ok
unfolding answered
returns-in-Ok c =
    let a = c.args in
    let d = c.sweep_of-d.result in
    let e : c.transfer_time_by.result ≡ transfer_time_by a.s (reach_of (arc_of a.mu d)) = rw (c.transfer_time_by.ensures, c.reach_of.ensures, c.arc_of.ensures) in
    e
    ∙ ap (λ (t : Result Unit Entry). answered t (transfer_time_by a.s (reach_of (arc_of a.mu d)))) (sym c.in-Ok.is ∙ c.tests.ensures)
    ∙ ap (theta_from a.mu a.s a.sin a.cos) c.sweep_of-d.ensures

pub returns-in-Err : goal.returns-in-Err
unfolding answered
returns-in-Err c =
    let a = c.args in
    let d = c.sweep_of-d.result in
    ap (λ (t : Result Unit Entry). answered t (transfer_time_by a.s (reach_of (arc_of a.mu d)))) (sym c.in-Err.is ∙ c.tests.ensures)
    ∙ ap (theta_from a.mu a.s a.sin a.cos) c.sweep_of-d.ensures
