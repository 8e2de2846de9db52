-- By the number read. Assumes nothing.
use Rattle.std.specs.Prelude.{Err}
use mathlib.Core.Path.{◌≡◌, refl, ◌∙◌}
use Rattle.std.proofs.Common.{rules}
use Rattle.forms.specs.Forms.{numbers}
use Rattle.requests.proofs.Lists.{one}
use Rattle.requests.proofs.one.Goals as goal

pub returns-in_err-x : goal.returns-in_err-x
unfolding numbers
returns-in_err-x c =
    let e : c.from_residual.result ≡ Err c.in_err-x.field-0.0 = search rules in
    λ ask. c.in_err-x.ensures (one ask) ∙ rw e refl

pub returns : goal.returns
unfolding numbers
returns c = λ ask. c.in_ok-x.ensures (one ask)
