-- `conic::outside` meets its contract. Assumes nothing.
use Rattle.conic.specs.Conic.{outside_of}
use Rattle.conic.proofs.outside.Goals as goal

pub returns-then-xi : goal.returns-then-xi
unfolding outside_of
returns-then-xi c = simp (c.if-xi.true, c.range_test.ensures)

pub returns : goal.returns
unfolding outside_of
returns c = simp (c.if-xi.false, c.range_test-2.ensures)
