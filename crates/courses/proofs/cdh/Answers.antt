-- Each part by what was read of it. Assumes nothing.
use Rattle.std.specs.Prelude.{Err}
use mathlib.Core.Path.{◌≡◌, ap, sym, ◌∙◌}
use mir.Val.{to_z, of_z}
use Rattle.std.proofs.Common.{rules, w64}
use Rattle.forms.specs.Forms.{numbers}
use Rattle.forms.proofs.Steps.{by_whole_lem, by_signed_lem}
use Rattle.forms.proofs.Rows.{there, missed}
use Rattle.courses.proofs.Lists.{active_go, active_in, passive_go, passive_in, times_go, radius_in, mu_in}
use Rattle.courses.proofs.cdh.Goals as goal

pub returns-in_err-body : goal.returns-in_err-body
unfolding numbers
returns-in_err-body c =
    let line = c.args.line.now in
    let e : c.from_residual.result ≡ Err c.in_err-body.field-0.0 = search rules in
    let m = missed _ _ (sym c.ok_or.ensures.value ∙ c.in_err-body.was) in
    e ∙ sym (by_whole_lem 1 line _ c.whole_at.ensures m.0
    ∙ ap Err m.1)

pub returns-in_err-radius : goal.returns-in_err-radius
unfolding numbers
returns-in_err-radius c =
    let line = c.args.line.now in
    let e : c.from_residual-in_err-radius.result ≡ Err c.in_err-radius.field-0.0 = search rules in
    e ∙ sym (by_whole_lem 1 line _ c.whole_at.ensures (there _ _ (sym c.ok_or.ensures.value ∙ c.in_ok-body.was))
    ∙ c.in_err-radius.ensures (active_go c.in_ok-body.body))

pub returns-in_err-ta : goal.returns-in_err-ta
unfolding numbers
returns-in_err-ta c =
    let line = c.args.line.now in
    let radius = radius_in c.in_ok-radius.field-0 in
    let mu = mu_in c.in_ok-radius.field-0 in
    let active = active_in c.in_ok-radius.field-0 in
    let e : c.from_residual-in_err-ta.result ≡ Err c.in_err-ta.field-0.0 = search rules in
    let m = missed _ _ (sym c.ok_or-2.ensures.value ∙ c.in_err-ta.was) in
    e ∙ sym (by_whole_lem 1 line _ c.whole_at.ensures (there _ _ (sym c.ok_or.ensures.value ∙ c.in_ok-body.was))
    ∙ c.in_ok-radius.ensures (active_go c.in_ok-body.body)
    ∙ by_signed_lem 10 line _ c.signed_at.ensures m.0
    ∙ ap Err m.1)

pub returns-in_err-rx : goal.returns-in_err-rx
unfolding numbers
returns-in_err-rx c =
    let line = c.args.line.now in
    let radius = radius_in c.in_ok-radius.field-0 in
    let mu = mu_in c.in_ok-radius.field-0 in
    let active = active_in c.in_ok-radius.field-0 in
    let e : c.from_residual-in_err-rx.result ≡ Err c.in_err-rx.field-0.0 = search rules in
    e ∙ sym (by_whole_lem 1 line _ c.whole_at.ensures (there _ _ (sym c.ok_or.ensures.value ∙ c.in_ok-body.was))
    ∙ c.in_ok-radius.ensures (active_go c.in_ok-body.body)
    ∙ by_signed_lem 10 line _ c.signed_at.ensures (there _ _ (sym c.ok_or-2.ensures.value ∙ c.in_ok-ta.was))
    ∙ c.in_err-rx.ensures (passive_go c.in_ok-body.body radius mu active c.in_ok-ta.ta))

pub returns-in_err-tp : goal.returns-in_err-tp
unfolding numbers
returns-in_err-tp c =
    let line = c.args.line.now in
    let radius = radius_in c.in_ok-radius.field-0 in
    let mu = mu_in c.in_ok-radius.field-0 in
    let active = active_in c.in_ok-radius.field-0 in
    let e : c.from_residual-in_err-tp.result ≡ Err c.in_err-tp.field-0.0 = search rules in
    let m = missed _ _ (sym c.ok_or-3.ensures.value ∙ c.in_err-tp.was) in
    e ∙ sym (by_whole_lem 1 line _ c.whole_at.ensures (there _ _ (sym c.ok_or.ensures.value ∙ c.in_ok-body.was))
    ∙ c.in_ok-radius.ensures (active_go c.in_ok-body.body)
    ∙ by_signed_lem 10 line _ c.signed_at.ensures (there _ _ (sym c.ok_or-2.ensures.value ∙ c.in_ok-ta.was))
    ∙ c.in_ok-rx.ensures (passive_go c.in_ok-body.body radius mu active c.in_ok-ta.ta)
    ∙ by_signed_lem 17 line _ c.signed_at-2.ensures m.0
    ∙ ap Err m.1)

pub returns-in_err-t2 : goal.returns-in_err-t2
unfolding numbers
returns-in_err-t2 c =
    let line = c.args.line.now in
    let radius = radius_in c.in_ok-radius.field-0 in
    let mu = mu_in c.in_ok-radius.field-0 in
    let active = active_in c.in_ok-radius.field-0 in
    let e : c.from_residual-in_err-t2.result ≡ Err c.in_err-t2.field-0.0 = search rules in
    e ∙ sym (by_whole_lem 1 line _ c.whole_at.ensures (there _ _ (sym c.ok_or.ensures.value ∙ c.in_ok-body.was))
    ∙ c.in_ok-radius.ensures (active_go c.in_ok-body.body)
    ∙ by_signed_lem 10 line _ c.signed_at.ensures (there _ _ (sym c.ok_or-2.ensures.value ∙ c.in_ok-ta.was))
    ∙ c.in_ok-rx.ensures (passive_go c.in_ok-body.body radius mu active c.in_ok-ta.ta)
    ∙ by_signed_lem 17 line _ c.signed_at-2.ensures (there _ _ (sym c.ok_or-3.ensures.value ∙ c.in_ok-tp.was))
    ∙ c.in_err-t2.ensures (times_go c.in_ok-body.body radius mu active c.in_ok-ta.ta (passive_in c.in_ok-rx.field-0) c.in_ok-tp.tp))

pub returns : goal.returns
unfolding numbers
returns c =
    let line = c.args.line.now in
    let radius = radius_in c.in_ok-radius.field-0 in
    let mu = mu_in c.in_ok-radius.field-0 in
    let active = active_in c.in_ok-radius.field-0 in
    let a : to_z w64 (of_z w64 c.in_ok-ta.ta) ≡ c.in_ok-ta.ta = search rules in
    let p : to_z w64 (of_z w64 c.in_ok-tp.tp) ≡ c.in_ok-tp.tp = search rules in
    let l : to_z w64 (of_z w64 c.in_ok-t2.t2) ≡ c.in_ok-t2.t2 = search rules in
    let h : to_z w64 (of_z w64 c.in_ok-t2.t3) ≡ c.in_ok-t2.t3 = search rules in
    rw (a, p, l, h) at c.only.ensures ∙ sym (by_whole_lem 1 line _ c.whole_at.ensures (there _ _ (sym c.ok_or.ensures.value ∙ c.in_ok-body.was))
    ∙ c.in_ok-radius.ensures (active_go c.in_ok-body.body)
    ∙ by_signed_lem 10 line _ c.signed_at.ensures (there _ _ (sym c.ok_or-2.ensures.value ∙ c.in_ok-ta.was))
    ∙ c.in_ok-rx.ensures (passive_go c.in_ok-body.body radius mu active c.in_ok-ta.ta)
    ∙ by_signed_lem 17 line _ c.signed_at-2.ensures (there _ _ (sym c.ok_or-3.ensures.value ∙ c.in_ok-tp.was))
    ∙ c.in_ok-t2.ensures (times_go c.in_ok-body.body radius mu active c.in_ok-ta.ta (passive_in c.in_ok-rx.field-0) c.in_ok-tp.tp))
