-- `burn::changed` meets its contract. Assumes nothing.
use mathlib.Core.Path.{ap, ◌∙◌}
use Rattle.vector.specs.declared.Vector.{Vector}
use Rattle.vector.specs.Vectors.{position_of, state_of, difference_of}
use Rattle.apsides.specs.Apsides.{Apsides, apsides_of}
use Rattle.burn.specs.Burn.{cleared_of, changed_of}
use Rattle.burn.proofs.changed.Goals as goal

pub returns : goal.returns
unfolding changed_of
returns c = let a = c.args in
    c.cleared.ensures
    ∙ ap (λ (x : Apsides). cleared_of a.k c.sub-change.result x) (c.periapo.ensures ∙ ap (apsides_of a.k.mu) (c.new-after.ensures ∙ ap (λ (r : Vector). state_of r a.new) c.position.ensures))
    ∙ ap (λ (x : Vector). cleared_of a.k x (apsides_of a.k.mu (state_of (position_of a.active) a.new))) (c.sub-change.ensures ∙ ap (difference_of a.new) c.velocity.ensures)
