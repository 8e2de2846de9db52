-- The cases of going back. Assumes nothing.
use Rattle.std.specs.Prelude.{Ok}
use Rattle.std.proofs.Common.{◌≡◌, take, sym, ap, ◌∙◌, refl}
use Rattle.std.proofs.lemmas.Result.{err_from_is_err_and}
use Rattle.settings.specs.declared.allowed.Setting.{Setting}
use Rattle.settings.specs.History.{look_up, buffer_after}
use Rattle.settings.proofs.Cases.{beyond, copied, not-copied, found-is}
use Rattle.settings.proofs.go_back.Goals as goal

pub returns-then-used-buf : goal.returns-then-used-buf
unfolding buffer_after
returns-then-used-buf c =
    let a = c.args in
    (beyond a.buf.now a.used a.k c.if-used-buf.true, refl)

pub returns-in_err-x : goal.returns-in_err-x
unfolding buffer_after
returns-in_err-x c =
    let a = c.args in
    let d = a.buf.now in
    let n = c.in_err-x.field-0.0 in
    let p = err_from_is_err_and c.from_residual.result c.from_residual.ensures.1 in
    rw (p.1, p.2) (not-copied d a.used a.k n c.if-used-buf.false (sym c.look_up.ensures ∙ c.in_err-x.was), refl)

pub returns : goal.returns
returns c =
    let a = c.args in
    let d = a.buf.now in
    let x = c.in_ok-x.x in
    let e : look_up (take a.used d) a.k ≡ Ok x = sym c.look_up.ensures ∙ c.in_ok-x.was in (
      c.put_next.ensures.0 ∙ copied d a.used a.k x c.if-used-buf.false e,
      c.put_next.ensures.1
          ∙ ap (λ (y : Setting). buffer_after c.put_next.result d a.used y) (sym (found-is (take a.used d) a.k x e)),
    )
