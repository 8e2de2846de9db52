-- 4 for a component over 2^7 in size after the sum. Assumes nothing.
use Rattle.std.specs.Prelude.{Ok}
use Rattle.std.proofs.Common.{rules}
use Rattle.refusal.specs.declared.Refusal.TheVariants as Refusal
use mathlib.Core.Path.{◌≡◌, sym, ap, ◌∙◌}
use lib.IntN.{ℤ}
use mir.Syntax.{w64}
use mir.Facts.{to_z-of_z}
use Rattle.vector.specs.declared.Vector.{Vector}
use Rattle.vector.specs.declared.State.{State}
use Rattle.vector.specs.Vectors.{position_of, velocity_of, state_of, sum_of}
use Rattle.table.specs.declared.Name.TheVariants.{Velocity}
use Rattle.table.specs.Tests.{first_failing}
use Rattle.table.proofs.Laws.{first_failing_lem}
use Rattle.rows.specs.Rows.{velocity_components}
use Rattle.flight.proofs.Flights.{burned-passed, burned-failed}
use Rattle.flight.proofs.burn.Goals as goal

pub returns-in-Ok : goal.returns-in-Ok
returns-in-Ok c =
    let a = c.args in
    let f = a.f in
    ap (λ (z : ℤ). Ok (record { body = f.body; time = z; state = c.new-state.result })) (to_z-of_z {w = w64} {z = f.time} (search rules))
    ∙ ap (λ (s : State). Ok (record { body = f.body; time = f.time; state = s }))
    (c.new-state.ensures
    ∙ ap (λ (r : Vector). state_of r c.add-v.result) c.position.ensures
    ∙ ap (λ (v : Vector). state_of (position_of f.state) v) (let after : let a = c.args in c.add-v.result ≡ sum_of (velocity_of a.f.state) a.change = c.add-v.ensures ∙ ap (λ (v : Vector). sum_of v c.args.change) c.velocity.ensures in after))
    ∙ sym (burned-passed f a.change (sym (let tested : let a = c.args in
    c.velocity_components.result ≡ first_failing (velocity_components Refusal.VelocityOutOfRange Velocity (sum_of (velocity_of a.f.state) a.change)) = c.velocity_components.ensures
    ∙ first_failing_lem (velocity_components Refusal.VelocityOutOfRange Velocity c.add-v.result)
    ∙ ap (λ (v : Vector). first_failing (velocity_components Refusal.VelocityOutOfRange Velocity v)) (let after : let a = c.args in c.add-v.result ≡ sum_of (velocity_of a.f.state) a.change = c.add-v.ensures ∙ ap (λ (v : Vector). sum_of v c.args.change) c.velocity.ensures in after) in tested) ∙ c.in-Ok.is))

pub returns-in-Err : goal.returns-in-Err
returns-in-Err c =
    let a = c.args in
    sym (burned-failed a.f a.change c.in-Err.e (sym (let tested : let a = c.args in
    c.velocity_components.result ≡ first_failing (velocity_components Refusal.VelocityOutOfRange Velocity (sum_of (velocity_of a.f.state) a.change)) = c.velocity_components.ensures
    ∙ first_failing_lem (velocity_components Refusal.VelocityOutOfRange Velocity c.add-v.result)
    ∙ ap (λ (v : Vector). first_failing (velocity_components Refusal.VelocityOutOfRange Velocity v)) (let after : let a = c.args in c.add-v.result ≡ sum_of (velocity_of a.f.state) a.change = c.add-v.ensures ∙ ap (λ (v : Vector). sum_of v c.args.change) c.velocity.ensures in after) in tested) ∙ c.in-Err.is))
