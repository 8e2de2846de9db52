-- `burn::is_clear` meets its contract. Assumes nothing.
use Rattle.burn.specs.Burn.{clear_of}
use Rattle.burn.proofs.is_clear.Goals as goal

pub returns : goal.returns
unfolding clear_of
returns c = rw c.margin.ensures
