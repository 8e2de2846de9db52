-- `series::in_range` meets its contract: each arm returns what `cond` picks there. Assumes nothing.
use Rattle.series.specs.Series.{in_range}
use Rattle.series.proofs.in_range.Goals as goal

pub returns-then-xi : goal.returns-then-xi
unfolding in_range
returns-then-xi c = simp c.if-xi.true

pub returns-else-xi : goal.returns-else-xi
unfolding in_range
returns-else-xi c = simp c.if-xi.false
