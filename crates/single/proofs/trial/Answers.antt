-- Each part by what was read of it. Assumes nothing.
use Rattle.std.specs.Prelude.{Err}
use mathlib.Core.Path.{◌≡◌, ap, sym, ◌∙◌}
use mir.Val.{to_z, of_z}
use Rattle.std.proofs.Common.{rules, w64}
use Rattle.forms.proofs.Steps.{by_number_lem, by_whole_lem}
use Rattle.forms.proofs.Rows.{there, missed}
use Rattle.single.specs.Single.{trial_judged, trial_counted}
use Rattle.single.proofs.trial.Goals as goal

pub returns-in_err-asked : goal.returns-in_err-asked
returns-in_err-asked c =
    let e : c.from_residual.result ≡ Err c.in_err-asked.field-0.0 = search rules in
    let m = missed _ _ (sym c.ok_or.ensures.value ∙ c.in_err-asked.was) in
    e ∙ sym (by_number_lem 1 c.args.line.now _ c.number_at.ensures m.0 ∙ ap Err m.1)

pub returns-in_err-lo : goal.returns-in_err-lo
returns-in_err-lo c =
    let line = c.args.line.now in
    let e : c.from_residual-in_err-lo.result ≡ Err c.in_err-lo.field-0.0 = search rules in
    e ∙ sym (by_number_lem 1 line _ c.number_at.ensures (there _ _ (sym c.ok_or.ensures.value ∙ c.in_ok-asked.was))
    ∙ c.in_err-lo.ensures (trial_judged c.in_ok-asked.asked))

pub returns-in_err-below : goal.returns-in_err-below
returns-in_err-below c =
    let line = c.args.line.now in
    let e : c.from_residual-in_err-below.result ≡ Err c.in_err-below.field-0.0 = search rules in
    e ∙ sym (by_number_lem 1 line _ c.number_at.ensures (there _ _ (sym c.ok_or.ensures.value ∙ c.in_ok-asked.was))
    ∙ c.in_ok-lo.ensures (trial_judged c.in_ok-asked.asked)
    ∙ c.in_err-below.ensures (trial_counted c.in_ok-asked.asked c.in_ok-lo.lo c.in_ok-lo.hi))

pub returns-in_err-k : goal.returns-in_err-k
returns-in_err-k c =
    let line = c.args.line.now in
    let e : c.from_residual-in_err-k.result ≡ Err c.in_err-k.field-0.0 = search rules in
    let m = missed _ _ (sym c.ok_or-2.ensures.value ∙ c.in_err-k.was) in
    e ∙ sym (by_number_lem 1 line _ c.number_at.ensures (there _ _ (sym c.ok_or.ensures.value ∙ c.in_ok-asked.was))
    ∙ c.in_ok-lo.ensures (trial_judged c.in_ok-asked.asked)
    ∙ c.in_ok-below.ensures (trial_counted c.in_ok-asked.asked c.in_ok-lo.lo c.in_ok-lo.hi)
    ∙ by_whole_lem 6 line _ c.whole_at.ensures m.0 ∙ ap Err m.1)

pub returns : goal.returns
returns c =
    let line = c.args.line.now in
    let l : to_z w64 (of_z w64 c.in_ok-lo.lo) ≡ c.in_ok-lo.lo = search rules in
    let h : to_z w64 (of_z w64 c.in_ok-lo.hi) ≡ c.in_ok-lo.hi = search rules in
    rw (l, h) at c.only.ensures ∙ sym (by_number_lem 1 line _ c.number_at.ensures (there _ _ (sym c.ok_or.ensures.value ∙ c.in_ok-asked.was))
    ∙ c.in_ok-lo.ensures (trial_judged c.in_ok-asked.asked)
    ∙ c.in_ok-below.ensures (trial_counted c.in_ok-asked.asked c.in_ok-lo.lo c.in_ok-lo.hi)
    ∙ by_whole_lem 6 line _ c.whole_at.ensures (there _ _ (sym c.ok_or-2.ensures.value ∙ c.in_ok-k.was)))
