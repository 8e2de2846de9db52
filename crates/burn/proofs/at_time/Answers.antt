-- `burn::at_time` meets its contract. Assumes nothing.
use Rattle.std.specs.Prelude.{◌≡◌, Err, Some}
use Rattle.std.specs.Result.{result_ok}
use Rattle.std.proofs.Common.{sym, ap, ◌∙◌, to_z-of_z}
use Rattle.std.proofs.lemmas.Result.{err_from_is_err_and}
use Rattle.refusal.specs.declared.Refusal.TheVariants as Refusal
use Rattle.burn.specs.Burn.{moved_for, at_time}
use Rattle.burn.proofs.Refusals.{refused_by}
use Rattle.burn.proofs.at_time.Goals as goal

pub returns-in_err-t : goal.returns-in_err-t
unfolding at_time moved_for
returns-in_err-t c =
    let a = c.args in
    let b = rw (to_z-of_z c.ranges.from, to_z-of_z c.ranges.to) at c.between.ensures in
    let r = refused_by c.between.result c.ok_or.result Refusal.TimeOutOfRange c.in_err-t.field-0.0 c.ok_or.ensures.value c.in_err-t.was in
    let p = err_from_is_err_and c.from_residual.result c.from_residual.ensures.1 in
    p.1 ∙ ap Err (p.2 ∙ r.1) ∙ ap (moved_for a.mu a.s) (sym r.0 ∙ b)

pub returns : goal.returns
unfolding at_time moved_for
returns c =
    let a = c.args in
    let b = rw (to_z-of_z c.ranges.from, to_z-of_z c.ranges.to) at c.between.ensures in
    let t : c.between.result ≡ Some c.in_ok-t.t = c.ok_or.ensures.ok_part ∙ ap result_ok c.in_ok-t.was in
    c.moved.ensures ∙ ap (moved_for a.mu a.s) (sym t ∙ b)
