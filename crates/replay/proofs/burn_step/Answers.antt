-- A refusal leaves the replay as it is; else the vehicle is set anew. Assumes nothing.
use Rattle.std.specs.Prelude.{Option}
use Rattle.flight.specs.declared.Flight.{Flight}
use mathlib.Core.Path.{◌≡◌, sym, ap, ◌∙◌}
use Rattle.replay.specs.Replay.{vehicle_of, burn_from, burn_done}
use Rattle.replay.proofs.burn_step.Goals as goal

pub returns-in-Err : goal.returns-in-Err
unfolding burn_done
returns-in-Err c = simp (
  sym (let came : let a = c.args in c.burn_from.result ≡ burn_from a.mu (vehicle_of a.p a.r.vehicle) a.r = let a = c.args in
      c.burn_from.ensures ∙ ap (λ (x : Option Flight). burn_from a.mu x a.r) c.vehicle_of.ensures in came) ∙ c.in-Err.is,
  c.refused.ensures,
)

pub returns-in-Ok : goal.returns-in-Ok
unfolding burn_done
returns-in-Ok c = simp (
  sym (let came : let a = c.args in c.burn_from.result ≡ burn_from a.mu (vehicle_of a.p a.r.vehicle) a.r = let a = c.args in
      c.burn_from.ensures ∙ ap (λ (x : Option Flight). burn_from a.mu x a.r) c.vehicle_of.ensures in came) ∙ c.in-Ok.is,
  c.with.ensures,
)
