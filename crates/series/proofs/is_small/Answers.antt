-- `series::is_small` meets its contract. Assumes nothing.
use Rattle.series.specs.Series.{small}
use Rattle.series.proofs.is_small.Goals as goal

pub returns : goal.returns
unfolding small
returns c = rw c.size.ensures
