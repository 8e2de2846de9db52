-- `solve::transfer_velocity` meets its contract: from the start 52 trials are no limit. Assumes nothing.
use mathlib.Core.Path.{◌∙◌}
use lib.Dec.{lit≤}
use Rattle.solve.proofs.LimitedTransfer.{transfer-free}
use Rattle.solve.proofs.transfer_velocity.Goals as goal

pub returns : goal.returns
returns c =
    let a = c.args in
    c.transfer_velocity_limited.ensures ∙ transfer-free a.mu a.first a.second a.way a.t 52 (lit≤ tt)
