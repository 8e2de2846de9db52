-- By the numbers read, the way, and what stands behind it. Assumes nothing.
use Rattle.std.specs.Prelude.{Err}
use mathlib.Core.Path.{◌≡◌, refl, ◌∙◌}
use Rattle.std.proofs.Common.{rules}
use Rattle.forms.specs.Forms.{numbers}
use Rattle.solves.proofs.Lists.{lambert_ask, lambert_end, lambert_go}
use Rattle.solves.proofs.lambert.Goals as goal

pub returns-in_err-mu : goal.returns-in_err-mu
unfolding numbers
returns-in_err-mu c =
    let e : c.from_residual.result ≡ Err c.in_err-mu.field-0.0 = search rules in
    λ ask. c.in_err-mu.ensures (lambert_go ask) ∙ rw e refl

pub returns-in_err-way : goal.returns-in_err-way
unfolding numbers
returns-in_err-way c =
    let e : c.from_residual-in_err-way.result ≡ Err c.in_err-way.field-0.0 = search rules in
    λ ask. c.in_ok-mu.ensures (lambert_go ask) ∙ c.in_err-way.ensures (lambert_end ask c.in_ok-mu.field-0) ∙ rw e refl

pub returns-in_err-beginning : goal.returns-in_err-beginning
unfolding numbers
returns-in_err-beginning c =
    let e : c.from_residual-in_err-beginning.result ≡ Err c.in_err-beginning.field-0.0 = search rules in
    λ ask. c.in_ok-mu.ensures (lambert_go ask) ∙ c.in_ok-way.ensures (lambert_end ask c.in_ok-mu.field-0) ∙ c.in_err-beginning.ensures (lambert_ask ask c.in_ok-mu.field-0 c.in_ok-way.way) ∙ rw e refl

pub returns : goal.returns
unfolding numbers
returns c = λ ask. c.in_ok-mu.ensures (lambert_go ask) ∙ c.in_ok-way.ensures (lambert_end ask c.in_ok-mu.field-0) ∙ c.in_ok-beginning.ensures (lambert_ask ask c.in_ok-mu.field-0 c.in_ok-way.way)
