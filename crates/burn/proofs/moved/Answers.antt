-- `burn::moved` meets its contract. Assumes nothing.
use mathlib.Core.Path.{ap, ◌∙◌}
use Rattle.burn.specs.Burn.{kept_of, moved_of}
use Rattle.burn.proofs.moved.Goals as goal

pub returns : goal.returns
unfolding moved_of
returns c = c.kept.ensures ∙ ap kept_of c.advance.ensures
