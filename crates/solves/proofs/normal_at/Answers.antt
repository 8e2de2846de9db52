-- By the numbers read. Assumes nothing.
use Rattle.std.specs.Prelude.{Err}
use mathlib.Core.Path.{◌≡◌, refl, ◌∙◌}
use Rattle.std.proofs.Common.{rules}
use Rattle.forms.specs.Forms.{numbers}
use Rattle.solves.proofs.Lists.{normal_go}
use Rattle.solves.proofs.normal_at.Goals as goal

pub returns-in_err-x : goal.returns-in_err-x
unfolding numbers
returns-in_err-x c =
    let e : c.from_residual.result ≡ Err c.in_err-x.field-0.0 = search rules in
    λ go. c.in_err-x.ensures (normal_go go) ∙ rw e refl

pub returns : goal.returns
unfolding numbers
returns c = λ go. c.in_ok-x.ensures (normal_go go)
