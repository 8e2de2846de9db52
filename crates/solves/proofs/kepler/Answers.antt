-- By the numbers read, and what stands behind them. Assumes nothing.
use Rattle.std.specs.Prelude.{Err}
use mathlib.Core.Path.{◌≡◌, refl, ◌∙◌}
use Rattle.std.proofs.Common.{rules}
use Rattle.forms.specs.Forms.{numbers}
use Rattle.solves.proofs.Lists.{kepler_ask, kepler_go}
use Rattle.solves.proofs.kepler.Goals as goal

pub returns-in_err-mu : goal.returns-in_err-mu
unfolding numbers
returns-in_err-mu c =
    let e : c.from_residual.result ≡ Err c.in_err-mu.field-0.0 = search rules in
    λ ask. c.in_err-mu.ensures (kepler_go ask) ∙ rw e refl

pub returns-in_err-beginning : goal.returns-in_err-beginning
unfolding numbers
returns-in_err-beginning c =
    let e : c.from_residual-in_err-beginning.result ≡ Err c.in_err-beginning.field-0.0 = search rules in
    λ ask. c.in_ok-mu.ensures (kepler_go ask) ∙ c.in_err-beginning.ensures (kepler_ask ask c.in_ok-mu.field-0) ∙ rw e refl

pub returns : goal.returns
unfolding numbers
returns c = λ ask. c.in_ok-mu.ensures (kepler_go ask) ∙ c.in_ok-beginning.ensures (kepler_ask ask c.in_ok-mu.field-0)
