-- The label, and the row behind it. Assumes nothing.
use Rattle.text.specs.Pieces.{then}
use Rattle.columns.proofs.labelled.Goals as goal

pub returns : goal.returns
returns c = then c.bytes-e.ensures c.row.ensures
