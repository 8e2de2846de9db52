-- Each fill takes one step at least, so that fewer are left.
use Rattle.std.proofs.Common.{◌≡◌, length, false}
use Rattle.report.specs.Listing.{is_done, steps_from}
use Rattle.listing.proofs.list.Given as goal

abbrev pub invariant-loop-f : goal.invariant-loop-f
invariant-loop-f g l = is_done l.next ≡ false

abbrev pub decreases-loop-f : goal.decreases-loop-f
decreases-loop-f g l = length (steps_from l.s l.next)
