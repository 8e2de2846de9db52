-- `apsides::radicand` meets its contract. Assumes nothing.
use Rattle.apsides.specs.Apsides.{radicand_of}
use Rattle.apsides.proofs.radicand.Goals as goal

pub returns-then-x : goal.returns-then-x
unfolding radicand_of
returns-then-x c = rw c.if-x.true

pub returns : goal.returns
unfolding radicand_of
returns c = rw c.if-x.false
