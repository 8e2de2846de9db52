-- 20, then the advance, then the burn. Assumes nothing.
use Rattle.std.specs.Prelude.{◌≡◌, Err, Some, Option, Result}
use Rattle.std.specs.Result.{result_ok}
use Rattle.std.proofs.Common.{sym, ap, ◌∙◌, rules, to_z-of_z, w64, SFits}
use Rattle.std.proofs.lemmas.Result.{err_from_is_err_and}
use Rattle.refusal.specs.declared.Refusal.{Refusal}
use Rattle.flight.specs.declared.Flight.{Flight}
use Rattle.flight.proofs.Refusals.{refused_by}
use Rattle.replay.specs.Replay.{burn_from, burn_then}
use Rattle.replay.proofs.burn_from.Goals as goal

pub returns-in_err-f : goal.returns-in_err-f
unfolding burn_from
returns-in_err-f c =
    let a = c.args in
    let r = refused_by a.x c.ok_or.result Refusal.NotSet c.in_err-f.field-0.0 c.ok_or.ensures.value c.in_err-f.was in
    let p = err_from_is_err_and c.from_residual.result c.from_residual.ensures.1 in
    p.1 ∙ ap Err (p.2 ∙ r.1) ∙ sym (ap (λ (o : Option Flight). burn_from a.mu o a.r) r.0)

pub returns-in_err-g : goal.returns-in_err-g
unfolding burn_from burn_then
returns-in_err-g c =
    let a = c.args in
    let fits : SFits w64 a.r.time = search rules in
    let flew = rw (to_z-of_z fits) at c.fly.ensures in
    let set : a.x ≡ Some c.in_ok-f.f = c.ok_or.ensures.ok_part ∙ ap result_ok c.in_ok-f.was in
    let p = err_from_is_err_and c.from_residual-in_err-g.result c.from_residual-in_err-g.ensures.1 in
    p.1 ∙ ap Err p.2
    ∙ sym (ap (λ (o : Option Flight). burn_from a.mu o a.r) set
    ∙ ap (λ (y : Result Flight Refusal). burn_then y a.r.change) (sym flew ∙ c.in_err-g.was))

pub returns : goal.returns
unfolding burn_from burn_then
returns c =
    let a = c.args in
    let fits : SFits w64 a.r.time = search rules in
    let flew = rw (to_z-of_z fits) at c.fly.ensures in
    let set : a.x ≡ Some c.in_ok-f.f = c.ok_or.ensures.ok_part ∙ ap result_ok c.in_ok-f.was in
    c.burn.ensures
    ∙ sym (ap (λ (o : Option Flight). burn_from a.mu o a.r) set
    ∙ ap (λ (y : Result Flight Refusal). burn_then y a.r.change) (sym flew ∙ c.in_ok-g.was))
