-- Both are set, or 20. Assumes nothing.
use Rattle.std.specs.Prelude.{◌≡◌, Err, Some, Option}
use Rattle.std.specs.Result.{result_ok}
use Rattle.std.proofs.Common.{sym, ap, ◌∙◌, to_z-of_z}
use Rattle.std.proofs.lemmas.Result.{err_from_is_err_and}
use Rattle.refusal.specs.declared.Refusal.TheVariants as Refusal
use Rattle.flight.specs.declared.Flight.{Flight}
use Rattle.flight.proofs.Refusals.{refused_by}
use Rattle.replay.specs.Replay.{pair_of}
use Rattle.replay.proofs.pair_from.Goals as goal

pub returns-in_err-a : goal.returns-in_err-a
unfolding pair_of
returns-in_err-a c =
    let a = c.args in
    let r = refused_by a.p.v0 c.ok_or.result Refusal.NotSet c.in_err-a.field-0.0 c.ok_or.ensures.value c.in_err-a.was in
    let p = err_from_is_err_and c.from_residual.result c.from_residual.ensures.1 in
    p.1 ∙ ap Err (p.2 ∙ r.1) ∙ sym (ap (λ (o : Option Flight). pair_of a.mu o a.p.v1 a.time) r.0)

pub returns-in_err-b : goal.returns-in_err-b
unfolding pair_of
returns-in_err-b c =
    let a = c.args in
    let first : a.p.v0 ≡ Some c.in_ok-a.a = c.ok_or.ensures.ok_part ∙ ap result_ok c.in_ok-a.was in
    let r = refused_by a.p.v1 c.ok_or-2.result Refusal.NotSet c.in_err-b.field-0.0 c.ok_or-2.ensures.value c.in_err-b.was in
    let p = err_from_is_err_and c.from_residual-in_err-b.result c.from_residual-in_err-b.ensures.1 in
    p.1 ∙ ap Err (p.2 ∙ r.1)
    ∙ sym (ap (λ (o : Option Flight). pair_of a.mu o a.p.v1 a.time) first
    ∙ ap (λ (o : Option Flight). pair_of a.mu (Some c.in_ok-a.a) o a.time) r.0)

pub returns : goal.returns
unfolding pair_of
returns c =
    let a = c.args in
    let first : a.p.v0 ≡ Some c.in_ok-a.a = c.ok_or.ensures.ok_part ∙ ap result_ok c.in_ok-a.was in
    let second : a.p.v1 ≡ Some c.in_ok-b.b = c.ok_or-2.ensures.ok_part ∙ ap result_ok c.in_ok-b.was in
    let flew = rw (to_z-of_z c.ranges.time) at c.fly_both.ensures in
    flew
    ∙ sym (ap (λ (o : Option Flight). pair_of a.mu o a.p.v1 a.time) first
    ∙ ap (λ (o : Option Flight). pair_of a.mu (Some c.in_ok-a.a) o a.time) second)
