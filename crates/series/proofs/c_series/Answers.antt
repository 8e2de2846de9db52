-- `series::c_series` meets its contract. Assumes nothing.
use Rattle.series.specs.Series.{c_series}
use Rattle.series.proofs.c_series.Goals as goal

pub returns : goal.returns
unfolding c_series
returns c = rw c.nested.ensures
