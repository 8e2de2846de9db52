-- `solve::advance` meets its contract: from the start 74 trials are no limit. Assumes nothing.
use mathlib.Core.Path.{◌∙◌}
use lib.Dec.{lit≤}
use Rattle.solve.proofs.LimitedAdvance.{advance-free}
use Rattle.solve.proofs.advance.Goals as goal

pub returns : goal.returns
returns c =
    let a = c.args in
    c.advance_limited.ensures ∙ advance-free a.mu a.s a.t 74 (lit≤ tt)
