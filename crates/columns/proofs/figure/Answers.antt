-- Each style by its own routine. Assumes nothing.
use Rattle.columns.specs.Rows.{figure_text}
use Rattle.columns.proofs.figure.Goals as goal

pub returns-in-Places : goal.returns-in-Places
unfolding figure_text
returns-in-Places c = rw c.in-Places.is c.fixed.ensures

pub returns-in-Bits : goal.returns-in-Bits
unfolding figure_text
returns-in-Bits c = rw c.in-Bits.is c.bits.ensures
