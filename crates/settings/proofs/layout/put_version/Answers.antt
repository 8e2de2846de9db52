-- The numbers stand behind the header. Assumes nothing.
use Rattle.text.proofs.Lays.{and_then}
use Rattle.settings.proofs.layout.put_version.Goals as goal

pub returns : goal.returns
returns c = and_then c.put_head-a.ensures c.put_numbers.ensures
