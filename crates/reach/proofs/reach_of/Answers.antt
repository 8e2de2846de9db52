-- `reach::reach_of` meets its contract. Assumes nothing.
use Rattle.reach.specs.Reach.{reach_of}
use Rattle.reach.proofs.reach_of.Goals as goal

pub returns-then-a-w : goal.returns-then-a-w
unfolding reach_of
returns-then-a-w c = rw (← c.square_root-rootp.ensures, c.if-a-w.true, c.over.ensures)

pub returns : goal.returns
unfolding reach_of
returns c = rw (← c.square_root-rootp.ensures, c.if-a-w.false, c.replaced.ensures)
