-- `series::s_series` meets its contract. Assumes nothing.
use Rattle.series.specs.Series.{s_series}
use Rattle.series.proofs.s_series.Goals as goal

pub returns : goal.returns
unfolding s_series
returns c = rw c.nested.ensures
