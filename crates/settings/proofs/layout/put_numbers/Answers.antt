-- The numbers one behind the other. Assumes nothing.
use Rattle.text.specs.Pieces.{then}
use Rattle.text.proofs.Lays.{one}
use Rattle.settings.proofs.layout.put_numbers.Goals as goal

pub returns : goal.returns
returns c = then c.put_float-a.ensures (then c.put_float-b.ensures (then c.put_float-c.ensures (one c.put_float.ensures)))
