-- One number more each turn. Assumes nothing.
use Rattle.columns.proofs.RowLaws.{row-start, row_more}
use Rattle.columns.proofs.row.Goals as goal

pub loop-x-init : goal.loop-x-init
loop-x-init c = row-start _ _ _ _

pub loop-x-preserved : goal.loop-x-preserved
loop-x-preserved c = row_more _ _ c.loop-x.invariant c.loop-x-test.true c.byte-e.ensures c.figure-e.ensures
