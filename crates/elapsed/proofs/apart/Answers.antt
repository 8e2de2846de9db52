-- `elapsed::apart` meets its contract: the size of a difference is that of the two raised. Assumes nothing.
use Rattle.std.proofs.Common.{◌∙◌, to_z-of_z}
use Rattle.elapsed.proofs.Raised.{size_is}
use Rattle.elapsed.proofs.apart.Goals as goal

pub returns : goal.returns
returns c = (rw (to_z-of_z c.ranges.from, to_z-of_z c.ranges.to) at c.abs_diff.ensures) ∙ size_is c.args.from c.args.to c.ranges.from.sfits c.ranges.to.sfits
