-- `burn::from_both` meets its contract. Assumes nothing.
use Rattle.std.specs.Prelude.{Err}
use Rattle.std.proofs.Common.{sym, ap, ◌∙◌}
use Rattle.std.proofs.lemmas.Result.{err_from_is_err_and}
use Rattle.burn.specs.Burn.{in_line_of, coelliptic_of, from_point, from_passive}
use Rattle.burn.proofs.from_both.Goals as goal

pub returns-in_err-point : goal.returns-in_err-point
unfolding from_passive from_point
returns-in_err-point c =
    let a = c.args in
    let line = c.in_line.ensures ∙ ap (in_line_of a.k.mu a.passive) c.angle_of.ensures in
    let p = err_from_is_err_and c.from_residual.result c.from_residual.ensures.1 in
    p.1 ∙ ap Err p.2 ∙ sym (ap (from_point a.k a.active) (sym line ∙ c.in_err-point.was))

pub returns : goal.returns
unfolding from_passive from_point
returns c =
    let a = c.args in
    let line = c.in_line.ensures ∙ ap (in_line_of a.k.mu a.passive) c.angle_of.ensures in
    c.coelliptic_of.ensures ∙ ap (coelliptic_of a.k a.active) c.passive_of.ensures
    ∙ sym (ap (from_point a.k a.active) (sym line ∙ c.in_ok-point.was))
