-- `reach::g` meets its contract. Assumes nothing.
use Rattle.reach.specs.Reach.{g_of}
use Rattle.reach.proofs.g.Goals as goal

pub returns : goal.returns
unfolding g_of
returns c = rw c.nested.ensures
