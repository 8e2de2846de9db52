-- The fields one behind the other. Assumes nothing.
use Rattle.text.specs.Pieces.{then}
use Rattle.text.proofs.Lays.{one}
use Rattle.settings.proofs.layout.put_head.Goals as goal

pub returns : goal.returns
returns c = then c.put-a.ensures (then c.put-b.ensures (then c.put-c.ensures (then c.put-d.ensures (one c.put.ensures))))
