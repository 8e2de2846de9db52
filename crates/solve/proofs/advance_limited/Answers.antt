-- `solve::advance_limited` meets its contract: what the bracket that the trials end on comes to. Assumes nothing.
use mathlib.Core.Path.{◌≡◌, sym, ap, ◌∙◌}
use lib.Ieee.{Float}
use Rattle.real.specs.F64.{size_of}
use Rattle.vector.specs.declared.State.{State}
use Rattle.kepler.specs.declared.Motion.{Motion}
use Rattle.kepler.specs.declared.Turns.{Turns}
use Rattle.kepler.specs.Kepler.{turned_of, motion_of, turns_of}
use Rattle.solve.specs.Ends.{motion_for, turns_for}
use Rattle.solve.specs.Answers.{concluded_of, advanced_as, advanced_end}
use Rattle.solve.specs.declared.Outcome.{Outcome}
use Rattle.trials.specs.Ended.{Ended}
use Rattle.solve.proofs.Sounds.{kepler-sound}
use Rattle.solve.proofs.advance_limited.Goals as goal

pub concluded-requires : goal.concluded-requires
concluded-requires c =
    let a = c.args in
    rw (ap (λ (w : Turns). w.rest) (let rested : let a = c.args in c.turns_of-w.result ≡ turns_for a.mu a.s a.t = let a = c.args in
    c.turns_of-w.ensures
    ∙ ap (λ (m : Motion). turns_of m c.size-size.result) (let motion : let a = c.args in c.motion_of-m.result ≡ motion_for a.mu a.s a.t = c.motion_of-m.ensures ∙ ap (motion_of c.args.mu) c.turned-from.ensures in motion)
    ∙ ap (turns_of (motion_for a.mu a.s a.t)) c.size-size.ensures in rested))
    (kepler-sound a.mu a.s a.t a.limit a.g c.in-At.b (sym c.kepler_ended.ensures ∙ c.in-At.is))

pub returns-in-Refused : goal.returns-in-Refused
unfolding advanced_end
returns-in-Refused c = simp (sym c.kepler_ended.ensures ∙ c.in-Refused.is)

pub returns-in-Wrong : goal.returns-in-Wrong
unfolding advanced_end
returns-in-Wrong c = simp (sym c.kepler_ended.ensures ∙ c.in-Wrong.is)

pub returns-in-At : goal.returns-in-At
unfolding advanced_end
returns-in-At c =
    let a = c.args in
    let m = motion_for a.mu a.s a.t in
    let b = c.in-At.b in
    let M = c.motion_of-m.result in
    let F = c.turned-from.result in
    let Z = c.size-size.result in
    c.advanced_as.ensures
    ∙ ap (λ (x : Outcome). advanced_as M F a.t c.turns_of-w.result.turns x) c.concluded.ensures
    ∙ ap (λ (u : Turns). advanced_as M F a.t u.turns (concluded_of Z u.rest b)) (let rested : let a = c.args in c.turns_of-w.result ≡ turns_for a.mu a.s a.t = let a = c.args in
    c.turns_of-w.ensures
    ∙ ap (λ (m : Motion). turns_of m c.size-size.result) (let motion : let a = c.args in c.motion_of-m.result ≡ motion_for a.mu a.s a.t = c.motion_of-m.ensures ∙ ap (motion_of c.args.mu) c.turned-from.ensures in motion)
    ∙ ap (turns_of (motion_for a.mu a.s a.t)) c.size-size.ensures in rested)
    ∙ ap (λ (x : Motion). advanced_as x F a.t (turns_for a.mu a.s a.t).turns (concluded_of Z (turns_for a.mu a.s a.t).rest b)) (let motion : let a = c.args in c.motion_of-m.result ≡ motion_for a.mu a.s a.t = c.motion_of-m.ensures ∙ ap (motion_of c.args.mu) c.turned-from.ensures in motion)
    ∙ ap (λ (x : State). advanced_as m x a.t (turns_for a.mu a.s a.t).turns (concluded_of Z (turns_for a.mu a.s a.t).rest b)) c.turned-from.ensures
    ∙ ap (λ (x : Float). advanced_as m (turned_of a.t a.s) a.t (turns_for a.mu a.s a.t).turns (concluded_of x (turns_for a.mu a.s a.t).rest b)) c.size-size.ensures
    ∙ sym (ap (λ (x : Ended). advanced_end x m (turned_of a.t a.s) a.t (size_of a.t)) (sym c.kepler_ended.ensures ∙ c.in-At.is))
