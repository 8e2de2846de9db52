-- `series::from_quarter` meets its contract: it is the definition's formulas, with 1 − q·s worked out once. Assumes nothing.
use mathlib.Core.Path.{refl}
use Rattle.series.specs.Series.{from_quarter, c_quarter, s_quarter}
use Rattle.series.proofs.from_quarter.Goals as goal

pub returns : goal.returns
unfolding from_quarter c_quarter s_quarter
returns c = refl
