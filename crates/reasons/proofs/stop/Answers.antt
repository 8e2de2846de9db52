-- The end of the grid, or a test. Assumes nothing.
use Rattle.text.proofs.Lays.{one}
use Rattle.reasons.proofs.stop.Goals as goal

pub returns-in-EndOfGrid : goal.returns-in-EndOfGrid
returns-in-EndOfGrid g c = rw c.in-EndOfGrid.is (one c.bytes.ensures)
