-- By the numbers read. Assumes nothing.
use Rattle.std.specs.Prelude.{Err}
use mathlib.Core.Path.{◌≡◌, refl, ◌∙◌}
use Rattle.std.proofs.Common.{rules}
use Rattle.forms.specs.Forms.{numbers}
use mathlib.Core.List.{List}
use lib.Ieee.{Float}
use Rattle.solves.proofs.Lists.{apsides_of}
use Rattle.solves.proofs.apsides.Goals as goal

pub returns-in_err-mu : goal.returns-in_err-mu
unfolding numbers
returns-in_err-mu c =
    let e : c.from_residual.result ≡ Err c.in_err-mu.field-0.0 = search rules in
    λ ask. c.in_err-mu.ensures (λ (xs : List Float). ask (apsides_of xs)) ∙ rw e refl

pub returns : goal.returns
unfolding numbers
returns c = λ ask. c.in_ok-mu.ensures (λ (xs : List Float). ask (apsides_of xs))
