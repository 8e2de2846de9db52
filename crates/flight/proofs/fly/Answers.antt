-- 5 for a difference that is too long; else it is exact, and Kepler takes it. Assumes nothing.
use Rattle.std.specs.Prelude.{Err, Some}
use Rattle.std.specs.Result.{result_ok}
use Rattle.std.proofs.Common.{◌≡◌, ℤ, Float, sym, ap, ◌∙◌, rules, to_z-of_z, w64, SFits}
use Rattle.std.proofs.lemmas.Result.{err_from_is_err_and}
use Rattle.refusal.specs.declared.Refusal.TheVariants as Refusal
use Rattle.solve.specs.Answers.{advance_of}
use Rattle.flight.specs.Flight.{mu_of, flown_as}
use Rattle.flight.proofs.Flights.{far-is, near-is, flown-far, flown-near}
use Rattle.flight.proofs.Refusals.{refused_by}
use Rattle.flight.proofs.fly.Goals as goal

pub returns-in_err-t : goal.returns-in_err-t
returns-in_err-t c =
    let fits : SFits w64 c.args.f.time = search rules in
    let b = rw (to_z-of_z fits, to_z-of_z c.ranges.time) at c.between.ensures in
    let r = refused_by c.between.result c.ok_or.result Refusal.TimeOutOfRange c.in_err-t.field-0.0 c.ok_or.ensures.value c.in_err-t.was in
    let p = err_from_is_err_and c.from_residual.result c.from_residual.ensures.1 in
    p.1 ∙ ap Err (p.2 ∙ r.1) ∙ sym (flown-far c.args.mu c.args.f c.args.time (far-is c.args.f c.args.time (sym b ∙ r.0)))

pub returns : goal.returns
returns c =
    let mu = c.args.mu in
    let f = c.args.f in
    let t = c.args.time in
    let fits : SFits w64 f.time = search rules in
    let b = rw (to_z-of_z fits, to_z-of_z c.ranges.time) at c.between.ensures in
    let x : c.between.result ≡ Some c.in_ok-t.t = c.ok_or.ensures.ok_part ∙ ap result_ok c.in_ok-t.was in
    let n = near-is f t _ (sym b ∙ x) in
    c.found.ensures
    ∙ ap (λ (z : ℤ). flown_as f.body z c.advance.result) (to_z-of_z c.ranges.time)
    ∙ ap (flown_as f.body t)
    (c.advance.ensures
    ∙ ap (λ (m : Float). advance_of m f.state c.in_ok-t.t) c.mu_of.ensures
    ∙ ap (λ (x : Float). advance_of (mu_of mu f.body) f.state x) (sym n.1))
    ∙ sym (flown-near mu f t n.0)
