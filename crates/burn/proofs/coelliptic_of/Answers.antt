-- `burn::coelliptic_of` meets its contract. Assumes nothing.
use mathlib.Core.Path.{ap, ◌∙◌}
use lib.Ieee.{Float}
use Rattle.vector.specs.Vectors.{length_of}
use Rattle.coelliptic.specs.Coelliptic.{axis_of}
use Rattle.burn.specs.Burn.{beside_of, coelliptic_of}
use Rattle.burn.proofs.coelliptic_of.Goals as goal

pub returns : goal.returns
unfolding coelliptic_of
returns c = let a = c.args in
    c.beside.ensures
    ∙ ap (beside_of a.k a.active a.p c.length-ra.result) c.axis.ensures
    ∙ ap (λ (r : Float). beside_of a.k a.active a.p r (axis_of a.p r)) (c.length-ra.ensures ∙ ap length_of c.position.ensures)
