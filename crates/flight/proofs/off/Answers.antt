-- Each part in its turn. Assumes nothing.
use mathlib.Core.Path.{ap, ◌∙◌}
use lib.Ieee.{Float, binary64, sub}
use Rattle.vector.specs.declared.Vector.{Vector}
use Rattle.vector.specs.Vectors.{position_of, length_of, difference_of}
use Rattle.flight.specs.Flight.{off_of}
use Rattle.flight.proofs.off.Goals as goal

pub returns : goal.returns
unfolding off_of
returns c =
    let a = c.args in
    ap (λ (x : Float). sub binary64 x a.range)
    (c.length.ensures
    ∙ ap (λ (v : Vector). length_of v)
    (c.sub-d.ensures
    ∙ ap (λ (v : Vector). difference_of v c.position-2.result) c.position.ensures
    ∙ ap (λ (v : Vector). difference_of (position_of a.a.state) v) c.position-2.ensures))
