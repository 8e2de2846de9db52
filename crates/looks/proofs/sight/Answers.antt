-- Each part by what was read of it. Assumes nothing.
use Rattle.std.specs.Prelude.{Err}
use mathlib.Core.Path.{◌≡◌, ap, sym, ◌∙◌}
use Rattle.std.proofs.Common.{rules}
use Rattle.forms.specs.Forms.{numbers}
use Rattle.forms.proofs.Steps.{by_whole_lem}
use Rattle.forms.proofs.Rows.{there, missed}
use Rattle.looks.proofs.Lists.{first_in, second_in, sight_go, sight_of}
use Rattle.looks.proofs.sight.Goals as goal

pub returns-in_err-ax : goal.returns-in_err-ax
unfolding numbers
returns-in_err-ax c =
    let e : c.from_residual.result ≡ Err c.in_err-ax.field-0.0 = search rules in
    e ∙ sym (c.in_err-ax.ensures sight_go)

pub returns-in_err-elevation : goal.returns-in_err-elevation
unfolding numbers
returns-in_err-elevation c =
    let line = c.args.line.now in
    let e : c.from_residual-in_err-elevation.result ≡ Err c.in_err-elevation.field-0.0 = search rules in
    let m = missed _ _ (sym c.ok_or.ensures.value ∙ c.in_err-elevation.was) in
    e ∙ sym (c.in_ok-ax.ensures sight_go ∙ by_whole_lem 7 line _ c.whole_at.ensures m.0 ∙ ap Err m.1)

pub returns-in_err-hx : goal.returns-in_err-hx
unfolding numbers
returns-in_err-hx c =
    let line = c.args.line.now in
    let e : c.from_residual-in_err-hx.result ≡ Err c.in_err-hx.field-0.0 = search rules in
    e ∙ sym (c.in_ok-ax.ensures sight_go ∙ by_whole_lem 7 line _ c.whole_at.ensures (there _ _ (sym c.ok_or.ensures.value ∙ c.in_ok-elevation.was)) ∙ c.in_err-hx.ensures (sight_of (first_in c.in_ok-ax.field-0) (second_in c.in_ok-ax.field-0) c.in_ok-elevation.elevation))

pub returns : goal.returns
unfolding numbers
returns c =
    let line = c.args.line.now in
    sym (c.in_ok-ax.ensures sight_go ∙ by_whole_lem 7 line _ c.whole_at.ensures (there _ _ (sym c.ok_or.ensures.value ∙ c.in_ok-elevation.was)) ∙ c.in_ok-hx.ensures (sight_of (first_in c.in_ok-ax.field-0) (second_in c.in_ok-ax.field-0) c.in_ok-elevation.elevation))
