-- `series::quartered_thrice` meets its contract: at most three quarterings, by the test of ξ's size. Assumes nothing.
use mathlib.Core.Path.{sym, ap, ◌∙◌}
use Rattle.series.specs.Series.{from_quarter}
use Rattle.series.proofs.Quarterings.{at_small, at-quarter}
use Rattle.series.proofs.quartered_thrice.Goals as goal

pub returns-then-is_small : goal.returns-then-is_small
returns-then-is_small c = c.series_pair.ensures ∙ at_small 3 _ (sym c.is_small.ensures ∙ c.if-is_small.true)

pub returns : goal.returns
returns c = c.from_quarter.ensures ∙ ap (from_quarter _) c.quartered_twice.ensures ∙ at-quarter 2 _ (sym c.is_small.ensures ∙ c.if-is_small.false)
