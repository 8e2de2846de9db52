-- `solve::transfer_velocity_limited` meets its contract: what the bracket that the trials end on comes to. Assumes nothing.
use mathlib.Core.Path.{sym, ap, ◌∙◌}
use Rattle.lambert.specs.declared.Transfer.{Transfer}
use Rattle.lambert.specs.Lambert.{transfer_of}
use Rattle.solve.specs.Answers.{concluded_of, transferred_as, transferred_end}
use Rattle.solve.specs.declared.Outcome.{Outcome}
use Rattle.trials.specs.Ended.{Ended}
use Rattle.solve.proofs.Sounds.{lambert-sound}
use Rattle.solve.proofs.transfer_velocity_limited.Goals as goal

pub concluded-requires : goal.concluded-requires
concluded-requires c =
    let a = c.args in
    lambert-sound a.mu a.first a.second a.way a.t a.limit a.g c.in-At.b (sym c.lambert_ended.ensures ∙ c.in-At.is)

pub returns-in-Refused : goal.returns-in-Refused
unfolding transferred_end
returns-in-Refused c = simp (sym c.lambert_ended.ensures ∙ c.in-Refused.is)

pub returns-in-Wrong : goal.returns-in-Wrong
unfolding transferred_end
returns-in-Wrong c = simp (sym c.lambert_ended.ensures ∙ c.in-Wrong.is)

pub returns-in-At : goal.returns-in-At
unfolding transferred_end
returns-in-At c =
    let a = c.args in
    let b = c.in-At.b in
    c.transferred_as.ensures
    ∙ ap (λ (x : Outcome). transferred_as c.transfer_of-d.result x) c.concluded.ensures
    ∙ ap (λ (x : Transfer). transferred_as x (concluded_of a.t a.t b)) c.transfer_of-d.ensures
    ∙ sym (ap (λ (x : Ended). transferred_end x (transfer_of a.mu a.first a.second a.way) a.t) (sym c.lambert_ended.ensures ∙ c.in-At.is))
